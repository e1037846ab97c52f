-- The parts of a variable, one within the other. The last part of a global may be an array with a Count of 0: it has as many elements as there are bits
-- (NonSemantic.Shader.DebugInfo.100, this project's profile).
use Rattle.std.specs.Prelude.{ℕ, zero, suc, ◌+◌, ◌-◌, ◌*◌, ◌/◌, ◌==◌, ◌&&◌, nat_lt, Bool, true, if◌then◌else◌, List, length, drop, slice_get, Option, Some, None}
use Rattle.std.specs.Option.{option_and_then, option_map, option_map_or, option_or}
use Rattle.spv_dbg.specs.Tables.{Tables}
use Rattle.spv_parts.specs.Arrays.{as_array}
use Rattle.spv_parts.specs.Composites.{last_member, member_named, members}
use Rattle.spv_parts.specs.Parts.{TypePart, literal, part_at, part_bits}

-- where a part of a variable lies
pub record Portion : Type 0 where
  pub start : ℕ  -- how many bits stand before it
  pub part : TypePart
  pub last : Bool  -- it is the last part of a global: its last element or member, or the last one of this, and so on

-- ---- elements

-- how many elements an array has by its outermost Count
abbrev pub outermost : Tables → TypePart → ℕ
outermost t array = option_map_or (literal t) (slice_get array.counts 0) 0

-- what they are: of the array by its further Counts
abbrev pub inner : TypePart → TypePart
inner array = record { base = array.base; counts = drop 1 array.counts }

-- how many whole elements some bits are; none where an element has no bits
abbrev pub whole_elements : ℕ → ℕ → ℕ
whole_elements bits each = if each == 0 then 0 else bits / each

-- How many elements a portion has, which is this array, in a global with so many bits. With a Count of 0 it has none; as the last part of a global
-- it has as many whole ones as bits are left.
abbrev pub elements : Tables → ℕ → Portion → TypePart → ℕ
elements t bits p array = if outermost t array == 0 && p.last then whole_elements (bits - p.start) (part_bits t (inner array)) else outermost t array

-- element k of so many
abbrev pub element_of : Tables → Portion → TypePart → ℕ → ℕ → Option Portion
element_of t p array count k =
    if nat_lt k count then Some (record { start = p.start + part_bits t (inner array) * k; part = inner array; last = p.last && (k + 1 == count) }) else None

abbrev pub element : Tables → ℕ → Portion → ℕ → Option Portion
element t bits p k = option_and_then (λ (array : TypePart). element_of t p array (elements t bits p array) k) (as_array t p.part)

-- ---- members

-- a part of a portion, with the bits before it there, as its last one or not
abbrev pub within : Portion → Bool → ℕ × TypePart → Portion
within p last q = record { start = p.start + q.0; part = q.1; last = p.last && last }

-- member i
abbrev pub member_at : Tables → Portion → ℕ → Option Portion
member_at t p i = option_map (within p (i + 1 == length (members t p.part))) (part_at t p.part i)

-- the first member with a name
abbrev pub member : Tables → Portion → List ℕ → Option Portion
member t p name = option_and_then (member_at t p) (member_named t p.part name)

-- ---- where a portion ends

-- the last element of an array, where it has one
abbrev pub last_element : Tables → ℕ → Portion → Option Portion
last_element t bits p = option_and_then (λ (array : TypePart). element_of t p array (elements t bits p array) (elements t bits p array - 1)) (as_array t p.part)

-- the last element or the last member, where there is one
abbrev pub last_part : Tables → ℕ → Portion → Option Portion
last_part t bits p = option_or (last_element t bits p) (option_map (within p true) (last_member t p.part))

-- how many bits stand before its end, by its type alone
abbrev pub plain_end : Tables → Portion → ℕ
plain_end t p = p.start + part_bits t p.part

-- The same where a Count of 0 may stand for elements: the last part of a global ends where its own last part does. It is followed at most so many
-- times.
abbrev pub end_within : ℕ → Tables → ℕ → Portion → ℕ
end_within zero t bits p = plain_end t p
end_within (suc n) t bits p = if p.last then option_map_or (end_within n t bits) (last_part t bits p) (plain_end t p) else plain_end t p

-- a type is nested at most 64 deep
unfoldable pub end_of : Tables → ℕ → Portion → ℕ
end_of t bits p = end_within 64 t bits p
