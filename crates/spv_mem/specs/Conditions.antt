-- Where pointers lead by the types of their variables.
use Rattle.std.specs.Prelude.{ℕ, Option, Some, None}
use Rattle.std.specs.Option.{option_and_then}
use Rattle.spv_base.specs.Entries.{reads}
use Rattle.spv_base.specs.declared.values.Pointer.{Pointer}
use Rattle.spv_base.specs.Variables.{root_id}
use Rattle.spv_types.specs.declared.forms.Form.{Form}
use Rattle.spv_types.specs.declared.forms.Form.TheVariants.{Int}
use Rattle.spv_types.specs.Shapes.{reached_type}
use Rattle.spv_types.specs.Types.{form_of}
use Rattle.spv_mem.specs.Memory.{Held}

-- the width of an integer type
abbrev pub integer_width : Option Form → Option ℕ
integer_width (Some (Int width sign)) = Some width
integer_width _ = None

-- the width of the integers that a pointer leads to, by the type of its variable
abbrev pub width_at : Held → Pointer → Option ℕ
width_at m p = option_and_then (λ type. option_and_then (λ t. integer_width (form_of m.types t)) (reached_type m.types type p.path)) (reads (root_id p.root) m.targets)
