-- The parts of the types of variables by their bits, as the Indexes of a DebugDeclare or a DebugValue name them
-- (NonSemantic.Shader.DebugInfo.100, this project's profile). The parts of a type lie one behind the other, without gaps: an Offset of a member isn't
-- looked at.
use Rattle.std.specs.Prelude.{ℕ, zero, suc, ◌+◌, ◌*◌, ◌==◌, ◌&&◌, ◌||◌, nat_lt, if◌then◌else◌, Bool, false, List, [], ◌∷◌, length, drop, take, filter, slice_get, slice_index, unwrap_or, Option, Some, None}
use Rattle.std.specs.Option.{option_and_then, option_map, option_map_or}
use Rattle.spv_dbg.specs.declared.insts.DebugInst.{DebugInst}
use Rattle.spv_dbg.specs.Tables.{Tables, bits_in, number_in, number_of, with_id}

-- a part of a type: an array of a type by some Counts, or a type itself where there are none
pub record TypePart : Type 0 where
  pub base : ℕ
  pub counts : List ℕ

abbrev pub whole : ℕ → TypePart
whole type = record { base = type; counts = [] }

-- ---- numbers and bits

-- the number that a literal operand stands for
abbrev pub literal : Tables → ℕ → ℕ
literal t id = unwrap_or (number_of t id) 0

abbrev pub product : Tables → List ℕ → ℕ
product t [] = 1
product t (id ∷ ids) = literal t id * product t ids

-- how many bits a type has, or the Type of a TypeMember
abbrev pub type_bits : Tables → ℕ → ℕ
type_bits t id = unwrap_or (bits_in t id) 0

abbrev pub part_bits : Tables → TypePart → ℕ
part_bits t p = type_bits t p.base * product t p.counts

-- ---- through TypeQualifier (4): Base, Qualifier; and Typedef (7): Name, Base

abbrev pub base_in : DebugInst → Option ℕ
base_in d = if d.number == 4 then Some (slice_index d.operands 0) else if d.number == 7 then Some (slice_index d.operands 1) else None

-- a type seen through at most so many of them
abbrev pub seen_through : ℕ → Tables → ℕ → ℕ
seen_through zero t id = id
seen_through (suc n) t id = option_map_or (seen_through n t) (option_and_then base_in (with_id t id)) id

-- through all: each stands behind its Base, so there are no more than debug instructions
abbrev pub plain : Tables → ℕ → ℕ
plain t id = seen_through (length t.insts) t id

-- ---- one index: the bits before the part, and the part

-- element i of an array by some Counts
abbrev pub element : Tables → ℕ → List ℕ → ℕ → Option (ℕ × TypePart)
element t base [] i = None
element t base (count ∷ counts) i =
    if nat_lt i (literal t count) then Some (part_bits t (record { base = base; counts = counts }) * i, record { base = base; counts = counts }) else None

-- a Member is a TypeMember (11) before its TypeComposite, which has number n; another one is skipped
abbrev pub is_member : Tables → ℕ → ℕ → Bool
is_member t n id = option_map_or (λ (d : DebugInst). d.number == 11) (with_id t id) false && option_map_or (λ k. nat_lt k n) (number_in t id) false

-- the Type of a TypeMember: Name, Type
abbrev pub member_type : Tables → ℕ → ℕ
member_type t id = option_map_or (λ (d : DebugInst). slice_index d.operands 1) (with_id t id) 0

-- how many bits some of them have
abbrev pub members_bits : Tables → List ℕ → ℕ
members_bits t [] = 0
members_bits t (id ∷ ids) = type_bits t id + members_bits t ids

-- member i of these
abbrev pub member : Tables → List ℕ → ℕ → Option (ℕ × TypePart)
member t members i = option_map (λ id. (members_bits t (take i members), whole (member_type t id))) (slice_get members i)

abbrev pub members_of : Tables → DebugInst → List ℕ
members_of t d = filter (is_member t (unwrap_or (number_in t d.id) 0)) (drop 9 d.operands)

-- TypeArray (5): Base, Counts; TypeVector (6): Base, Count; TypeMatrix (108): Vector Type, Vector Count; TypeComposite (10): nine operands, Members.
-- No other type has parts.
abbrev pub part_in : Tables → ℕ → DebugInst → Option (ℕ × TypePart)
part_in t i d =
    if d.number == 5 then element t (slice_index d.operands 0) (drop 1 d.operands) i
    else if d.number == 6 || d.number == 108 then element t (slice_index d.operands 0) (take 1 (drop 1 d.operands)) i
    else if d.number == 10 then member t (members_of t d) i
    else None

-- part i of a part; the first Count of an array is its outermost
abbrev pub part_at : Tables → TypePart → ℕ → Option (ℕ × TypePart)
part_at t p i = if length p.counts == 0 then option_and_then (part_in t i) (with_id t (plain t p.base)) else element t p.base p.counts i

-- ---- Indexes

-- the part that these Indexes lead to, with the bits before it, from a part with some bits before it
abbrev pub reached : Tables → ℕ × TypePart → List ℕ → Option (ℕ × TypePart)
reached t p [] = Some p
reached t p (index ∷ indexes) = option_and_then (λ (q : ℕ × TypePart). reached t (p.0 + q.0, q.1) indexes) (part_at t p.1 (literal t index))
