-- The bits of leaves: numbers of TypeBasics (NonSemantic.Shader.DebugInfo.100, this project's profile).
use Rattle.std.specs.Prelude.{ℕ, ◌+◌, ◌^◌, ◌<◌, ◌&&◌, nat_le, if◌then◌else◌, Bool, false, List, codes, slice_index_or}
use Rattle.spv_alu.specs.Integers.{IsWidth, number_of_bits}
use Rattle.spv_alu.specs.Vectors.{all_below}
use Rattle.spv_dbg.specs.declared.frames.Bit.{Bit}
use Rattle.spv_print.specs.declared.leaves.Leaf.{Leaf}
use Rattle.spv_print.specs.declared.leaves.Reading.{Reading}
use Rattle.spv_print.specs.declared.leaves.Reading.TheVariants.{Number, Undefined, Unavailable}

-- the bits of a value by their numbers
abbrev pub Bits : Type 0
Bits = ℕ → Bit

-- a bit that no value has
abbrev pub unbound : Bit
unbound = record { bound = false; defined = false; one = false }

-- those of a list; a missing one is unbound
abbrev pub bits_in : List Bit → Bits
bits_in bits k = slice_index_or bits k unbound

-- ---- the bits of a leaf: so many from its first, the lowest first

abbrev pub bit_of : Bits → Leaf → ℕ → Bit
bit_of bits leaf i = bits (leaf.first + i)

abbrev pub is_bound : Bits → Leaf → Bool
is_bound bits leaf = all_below leaf.size (λ i. (bit_of bits leaf i).bound)

abbrev pub is_defined : Bits → Leaf → Bool
is_defined bits leaf = all_below leaf.size (λ i. (bit_of bits leaf i).defined)

abbrev pub digit : Bit → ℕ
digit b = if b.one then 1 else 0

abbrev pub number : Bits → Leaf → ℕ
number bits leaf = number_of_bits leaf.size (λ i. digit (bit_of bits leaf i))

-- ---- what they tell

-- a TypeBasic whose numbers are shown has 1 to 64 bits
abbrev pub is_shown : Leaf → Bool
is_shown leaf = nat_le 1 leaf.size && nat_le leaf.size 64

abbrev pub reading : Bits → Leaf → Reading
reading bits leaf = if is_shown leaf && is_bound bits leaf then (if is_defined bits leaf then Number (number bits leaf) else Undefined) else Unavailable

abbrev pub unavailable : List ℕ
unavailable = codes "<unavailable>"

-- where text says what is written of a number
abbrev pub leaf_text : (ℕ → List ℕ) → Reading → List ℕ
leaf_text text (Number n) = text n
leaf_text text Undefined = codes "<undefined>"
leaf_text text Unavailable = unavailable

-- a number that is read has 1 to 64 bits, and fits in them
abbrev pub IsFitting : Leaf → Reading → Type 0
IsFitting leaf (Number n) = IsWidth leaf.size × (n < 2 ^ leaf.size)
IsFitting leaf Undefined = Unit {0}
IsFitting leaf Unavailable = Unit {0}
