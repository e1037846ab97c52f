-- What a path names: a variable, and a part of it.
use Rattle.std.specs.Prelude.{ℕ, ◌==◌, Bool, false, List, [], ◌∷◌, slice_index, Option, Some, Result}
use Rattle.std.specs.Option.{ok_or, option_and_then, option_map, option_map_or}
use Rattle.spv_base.specs.declared.causes.CmdRefusal.{CmdRefusal}
use Rattle.spv_cmd.specs.declared.command.PathPart.{PathPart}
use Rattle.spv_cmd.specs.declared.command.PathPart.TheVariants.{Member, Index}
use Rattle.spv_dbg.specs.declared.insts.DebugInst.{DebugInst}
use Rattle.spv_dbg.specs.Tables.{Tables, with_id}
use Rattle.spv_parts.specs.Parts.{TypePart, whole}
use Rattle.spv_paths.specs.Portions.{Portion, element, end_of, member}
use Rattle.spv_paths.specs.Variables.{variable_named}

-- ---- the parts of a path

-- `.member` is the first member with this name, and `[k]` is element k, where there is one
abbrev pub next : Tables → ℕ → Portion → PathPart → Option Portion
next t bits p (Member name) = member t p name
next t bits p (Index k) = element t bits p k

abbrev pub reached : Tables → ℕ → Portion → List PathPart → Option Portion
reached t bits p [] = Some p
reached t bits p (part ∷ parts) = option_and_then (λ (q : Portion). reached t bits q parts) (next t bits p part)

-- ---- of a variable: Name, Type

abbrev pub has_number : Tables → ℕ → ℕ → Bool
has_number t number id = option_map_or (λ (d : DebugInst). d.number == number) (with_id t id) false

-- LocalVariable (26)
abbrev pub is_local : Tables → ℕ → Bool
is_local t id = has_number t 26 id

abbrev pub type_of : Tables → ℕ → ℕ
type_of t id = option_map_or (λ (d : DebugInst). slice_index d.operands 1) (with_id t id) 0

-- a variable whole; a GlobalVariable (18) is the last part of itself
abbrev pub all_of : Tables → ℕ → Portion
all_of t id = record { start = 0; part = whole (type_of t id); last = has_number t 18 id }

-- what a path names: a variable, a part of it, and the bits from start to end
pub record Named : Type 0 where
  pub variable : ℕ
  pub is_local : Bool
  pub part : TypePart
  pub start : ℕ
  pub end : ℕ

abbrev pub named_at : Tables → ℕ → ℕ → Portion → Named
named_at t bits id p = record { variable = id; is_local = is_local t id; part = p.part; start = p.start; end = end_of t bits p }

-- the part of a variable, of which a global has so many bits
abbrev pub part_of : Tables → ℕ → ℕ → List PathPart → Option Named
part_of t id bits parts = option_map (named_at t bits id) (reached t bits (all_of t id) parts)

-- ---- the path

-- where no variable has the name it is C5, and where it has no such part C6
abbrev pub variable_due : Tables → ℕ → List ℕ → Result ℕ CmdRefusal
variable_due t scope name = ok_or (variable_named t scope name) (record { code = 5 })

abbrev pub part_due : Tables → ℕ → ℕ → List PathPart → Result Named CmdRefusal
part_due t id bits parts = ok_or (part_of t id bits parts) (record { code = 6 })
