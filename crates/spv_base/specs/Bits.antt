-- The bits of a value: those of its leaves in order, the lowest first, each 0, 1 or undefined.
use Rattle.std.specs.Prelude.{ℕ, zero, suc, ◌/◌, ◌%◌, ◌==◌, if◌then◌else◌, List, [], ◌∷◌, ◌++◌, Bool, Option, Some, None}
use Rattle.spv_base.specs.Cell.{Cell}
use Rattle.spv_base.specs.declared.values.Value.{Value, fold-Value}
use Rattle.spv_base.specs.declared.values.Value.TheOpen.{Value-F}

-- so many bits of a number, the lowest first, or so many bits that are not defined
abbrev pub bits_of : Bool → ℕ → ℕ → List (Option Bool)
bits_of defined zero n = []
bits_of defined (suc k) n = (if defined then Some (n % 2 == 1) else None) ∷ bits_of defined k (n / 2)

-- the bits of a scalar; a Boolean, whose width is 1, has 32
abbrev pub cell_bits : Cell → List (Option Bool)
cell_bits c = bits_of c.defined (if c.width == 1 then 32 else c.width) c.bits

abbrev pub joined : List (List (Option Bool)) → List (Option Bool)
joined [] = []
joined (bs ∷ rest) = bs ++ joined rest

-- the bits of one level, each value inside already seen as its bits
abbrev pub bits_step : Value-F (List (Option Bool)) → List (Option Bool)
bits_step (Value-F.Scalar c) = cell_bits c
bits_step (Value-F.List bss) = joined bss
bits_step (Value-F.Ptr p) = []

-- the bits of the leaves, joined; a pointer has none
abbrev pub bits : Value → List (Option Bool)
bits = fold-Value (List (Option Bool)) bits_step
