-- Kinds of events.
use Rattle.std.specs.Prelude.{Bool, true, false}
use Rattle.spv_base.specs.declared.happenings.Kind.{Kind}
use Rattle.spv_base.specs.declared.happenings.Kind.TheVariants as kind

-- of an event that changes nothing
abbrev pub is_idle : Kind → Bool
is_idle kind.Idle = true
is_idle _ = false
