-- Members by their names (NonSemantic.Shader.DebugInfo.100, this project's profile).
use Rattle.std.specs.Prelude.{ℕ, ◌-◌, ◌==◌, Bool, List, [], length, if◌then◌else◌, position, slice_index, Option, Some, None}
use Rattle.std.specs.Option.{option_and_then, option_map_or}
use Rattle.std.specs.Str.{bytes_eq}
use Rattle.spv_dbg.specs.declared.insts.DebugInst.{DebugInst}
use Rattle.spv_dbg.specs.Sources.{text_of}
use Rattle.spv_dbg.specs.Tables.{Tables, with_id}
use Rattle.spv_parts.specs.Parts.{TypePart, members_of, part_at, plain}

-- the name of the debug instruction with an id, of which the first operand is the OpString of a name, as a TypeMember
abbrev pub name_of : Tables → ℕ → List ℕ
name_of t id = option_map_or (λ (d : DebugInst). text_of t.strings (slice_index d.operands 0)) (with_id t id) []

abbrev pub composite_in : DebugInst → Option DebugInst
composite_in d = if d.number == 10 then Some d else None

-- the TypeComposite (10) that a part is, seen through each TypeQualifier and Typedef
abbrev pub composite_of : Tables → TypePart → Option DebugInst
composite_of t p = if length p.counts == 0 then option_and_then composite_in (with_id t (plain t p.base)) else None

-- its members in their order; no other type has any
abbrev pub members : Tables → TypePart → List ℕ
members t p = option_map_or (members_of t) (composite_of t p) []

abbrev pub is_named : Tables → List ℕ → ℕ → Bool
is_named t name id = bytes_eq (name_of t id) name

-- the number of the first member with a name
abbrev pub member_named : Tables → TypePart → List ℕ → Option ℕ
member_named t p name = position (is_named t name) (members t p)

-- the first member with a name, with the bits before it
abbrev pub part_named : Tables → TypePart → List ℕ → Option (ℕ × TypePart)
part_named t p name = option_and_then (part_at t p) (member_named t p name)

-- the last member, where there is one, with the bits before it
abbrev pub last_member : Tables → TypePart → Option (ℕ × TypePart)
last_member t p = if length (members t p) == 0 then None else part_at t p (length (members t p) - 1)
