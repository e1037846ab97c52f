-- Bits while they are read and put. Clauses of private calls alone cite this.
use Rattle.std.specs.Prelude.{◌≡◌, ℕ, ◌+◌, ◌-◌, ◌<◌, ◌≤◌, ◌&&◌, nat_le, nat_lt, if◌then◌else◌, true, false, List, [], ◌∷◌, length, Option, Some, slice_get, slice_index_or}
use Rattle.spv_base.specs.Bits.{cell_bits}
use Rattle.spv_base.specs.Cell.{Cell}
use Rattle.spv_dbg.specs.declared.frames.Bit.{Bit}
use Rattle.spv_expr.specs.declared.ranges.Range.{Range}
use Rattle.spv_expr.specs.Bits.{bits_of, shown, unbound}
use Rattle.spv_expr.specs.Kept.{is_in, is_in_any}

-- a bit lies in the first of some cells, if there is one
abbrev pub IsSettled : List Cell → ℕ → Type 0
IsSettled [] bit = Unit {0}
IsSettled (c ∷ cs) bit = bit < length (cell_bits c)

-- bit k of some
abbrev pub bit_in : List Bit → ℕ → Bit
bit_in bits k = slice_index_or bits k unbound

-- from a place to before another one stand the bits of a row from one on, and all others are as they were
abbrev pub ArePut : List Cell → ℕ → List Bit → ℕ → ℕ → List Bit → Type 0
ArePut cells from old at end new = (k : ℕ) → bit_in new k ≡ (if nat_le at k && nat_lt k end then shown (bits_of cells) (from + (k - at)) else bit_in old k)

-- ranges are within some bits from one on
abbrev pub AreWithin : ℕ → List Bit → List Range → Type 0
AreWithin first bits gaps = (j : ℕ) → is_in_any j gaps ≡ true → (nat_le first j && nat_lt j (first + length bits)) ≡ true

-- the bits of a row which begins with a range stand where they are in one of some ranges, and all others are as they were
abbrev pub ArePutIn : List Cell → Range → List Range → ℕ → List Bit → List Bit → Type 0
ArePutIn cells range gaps first old new =
    (k : ℕ) → k < length old → bit_in new k ≡ (if is_in_any (first + k) gaps && is_in (first + k) range then shown (bits_of cells) (first + k - range.start) else bit_in old k)

-- no event told of the bits of gaps yet
abbrev pub AreOpen : ℕ → List Bit → List Range → Type 0
AreOpen first bits gaps = (k : ℕ) → k < length bits → is_in_any (first + k) gaps ≡ true → bit_in bits k ≡ unbound

-- The bits of gaps are unbound, and in the whole they are as what is left tells; all others are as the whole tells.
abbrev pub AreTold : (ℕ → Bit) → (ℕ → Bit) → ℕ → List Bit → List Range → Type 0
AreTold all left first bits gaps = (k : ℕ) → k < length bits
    → (is_in_any (first + k) gaps ≡ true → (bit_in bits k ≡ unbound) × (all (first + k) ≡ left (first + k))) × (is_in_any (first + k) gaps ≡ false → bit_in bits k ≡ all (first + k))

-- The bits of a row from one on are those of another row from another bit on, and as many.
pub record IsRest (cells : List Cell) (bit : ℕ) (left : List Cell) (k : ℕ) : Type 0 where
  pub lower : k ≤ bit
  pub same : (m : ℕ) → slice_get (bits_of left) (k + m) ≡ slice_get (bits_of cells) (bit + m)
  pub count : length (bits_of cells) + k ≡ bit + length (bits_of left)

-- that of a row which is there
pub record IsSomeRest (row : Option (List Cell)) (bit : ℕ) (left : List Cell) (k : ℕ) : Type 0 where
  pub cells : List Cell
  pub is : row ≡ Some cells
  pub rest : IsRest cells bit left k
