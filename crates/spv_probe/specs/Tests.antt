-- Which events each probe hits.
use Rattle.std.specs.Prelude.{ℕ, Bool, true, false, not, ◌&&◌, ◌==◌, Option, Some, None}
use Rattle.spv_base.specs.declared.happenings.Happening.{Happening}
use Rattle.spv_base.specs.declared.happenings.Kind.{Kind}
use Rattle.spv_base.specs.declared.happenings.Kind.TheVariants as kind

-- a number is the one that is asked for, or any may be
abbrev pub is_asked : Option ℕ → ℕ → Bool
is_asked None number = true
is_asked (Some asked) number = number == asked

-- an event writes
abbrev pub writes : Kind → Bool
writes kind.Write = true
writes _ = false

-- an invocation arrives at a barrier, which may open by it
abbrev pub arrives : Kind → Bool
arrives kind.Arrive = true
arrives kind.Opened = true
arrives _ = false

-- a write to the variable with this id, or to any
abbrev pub is_store : Option ℕ → Happening → Bool
is_store root h = writes h.kind && is_asked root h.root

-- the head of this line, or of any: an event at no head has the line 0
abbrev pub is_head : Option ℕ → Happening → Bool
is_head line h = not (h.line == 0) && is_asked line h.line

-- an arrival at a barrier
abbrev pub is_arrival : Happening → Bool
is_arrival h = arrives h.kind
