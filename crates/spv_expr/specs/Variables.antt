-- Which debug events tell of a variable, and of which of its bits (NonSemantic.Shader.DebugInfo.100: DebugLocalVariable, DebugInlinedVariable,
-- DebugDeclare, DebugValue; this project's profile).
use Rattle.std.specs.Prelude.{ℕ, ◌+◌, ◌-◌, ◌==◌, ◌&&◌, ◌||◌, nat_lt, nat_le, if◌then◌else◌, Bool, false, List, drop, find, length, reverse, slice_get, slice_index, Option, Some, None}
use Rattle.std.specs.Option.{option_and_then, option_map, option_map_or}
use Rattle.spv_base.specs.declared.values.PassedEvent.{PassedEvent}
use Rattle.spv_dbg.specs.declared.insts.DebugInst.{DebugInst}
use Rattle.spv_dbg.specs.Tables.{Tables, at_word, inlined_at, with_id}
use Rattle.spv_expr.specs.declared.events.Instance.{Instance}
use Rattle.spv_parts.specs.Parts.{TypePart, literal, part_bits, reached, whole}

-- ---- variables

-- What an id stands for where an InlinedAt holds, 0 for none. An InlinedVariable (27: Variable, Inlined) stands for its Variable with its Inlined.
abbrev pub meant_by : ℕ → ℕ → DebugInst → Instance
meant_by inlined id d =
    if d.number == 27 then record { variable = slice_index d.operands 0; inlined = slice_index d.operands 1 } else record { variable = id; inlined = inlined }

abbrev pub meant : Tables → ℕ → ℕ → Instance
meant t inlined id = option_map_or (meant_by inlined id) (with_id t id) (record { variable = id; inlined = inlined })

abbrev pub is_same : Instance → Instance → Bool
is_same a b = a.variable == b.variable && a.inlined == b.inlined

-- the Type of a LocalVariable (26) or a GlobalVariable (18): Name, Type
abbrev pub type_of : Tables → ℕ → ℕ
type_of t variable = option_map_or (λ (d : DebugInst). slice_index d.operands 1) (with_id t variable) 0

-- ---- events: Declare (28) and Value (29): Local Variable, Variable or Value, Expression, Indexes

abbrev pub if_event : DebugInst → Option DebugInst
if_event d = if d.number == 28 || d.number == 29 then Some d else None

-- the well-formed one at a word
abbrev pub event_at : Tables → ℕ → Option DebugInst
event_at t word = option_and_then if_event (at_word t word)

-- one is of a variable, where the InlinedAt in force at its word is that of the variable
abbrev pub is_of : Tables → Instance → DebugInst → Bool
is_of t v d = is_same (meant t (inlined_at t d.word) (slice_index d.operands 0)) v

-- ---- the bits that an event covers: where they begin, and how many they are

-- the last Operation of the Expression (31) with an id, where there is one
abbrev pub last_operation : Tables → ℕ → Option DebugInst
last_operation t expression =
    option_and_then (λ (d : DebugInst). option_and_then (with_id t) (slice_get d.operands (length d.operands - 1))) (with_id t expression)

-- those of a part
abbrev pub bits_of : Tables → ℕ × TypePart → ℕ × ℕ
bits_of t p = (p.0, part_bits t p.1)

-- a Fragment (9) has an offset and a size, which are within the part
abbrev pub fragment_in : Tables → ℕ × TypePart → DebugInst → Option (ℕ × ℕ)
fragment_in t p d =
    if literal t (slice_index d.operands 0) == 9 then
    (if nat_le (literal t (slice_index d.operands 1) + literal t (slice_index d.operands 2)) (part_bits t p.1)
    then Some (p.0 + literal t (slice_index d.operands 1), literal t (slice_index d.operands 2))
    else None)
    else Some (bits_of t p)

-- those of the part, or of the Fragment in it
abbrev pub narrowed : Tables → ℕ → ℕ × TypePart → Option (ℕ × ℕ)
narrowed t expression p = option_map_or (fragment_in t p) (last_operation t expression) (Some (bits_of t p))

-- in a variable of a type; none where an Index isn't in the type, or a Fragment not in the part
abbrev pub covered : Tables → ℕ → DebugInst → Option (ℕ × ℕ)
covered t type d = option_and_then (narrowed t (slice_index d.operands 2)) (reached t (0, whole type) (drop 3 d.operands))

abbrev pub is_within : ℕ → ℕ × ℕ → Bool
is_within j range = nat_le range.0 j && nat_lt j (range.0 + range.1)

-- ---- the event that a bit comes from

abbrev pub if_of : Tables → Instance → DebugInst → Option DebugInst
if_of t v d = if is_of t v d then Some d else None

-- the event at a word, where it is of a variable
abbrev pub event_of : Tables → Instance → ℕ → Option DebugInst
event_of t v word = option_and_then (if_of t v) (event_at t word)

-- an event with the bits of a variable of a type that it covers
abbrev pub ranged : Tables → ℕ → DebugInst → Option (DebugInst × (ℕ × ℕ))
ranged t type d = option_map (λ (range : ℕ × ℕ). (d, range)) (covered t type d)

abbrev pub telling : Tables → Instance → ℕ → Option (DebugInst × (ℕ × ℕ))
telling t v word = option_and_then (ranged t (type_of t v.variable)) (event_of t v word)

-- one that was passed covers bit j of the variable
abbrev pub tells : Tables → Instance → ℕ → PassedEvent → Bool
tells t v j e = option_map_or (λ (x : DebugInst × (ℕ × ℕ)). is_within j x.1) (telling t v e.word) false

-- the last of these that does
abbrev pub last_telling : Tables → Instance → ℕ → List PassedEvent → Option PassedEvent
last_telling t v j events = find (tells t v j) (reverse events)
