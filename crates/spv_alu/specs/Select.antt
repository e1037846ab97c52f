-- OpSelect on one lane, and on rows (SPIR-V 1.6, section "Relational and Logical Instructions").
use Rattle.std.specs.Prelude.{ℕ, ◌==◌, ◌&&◌, if◌then◌else◌, List, [], ◌∷◌, length, replicate}
use Rattle.spv_base.specs.Cell.{Cell}
use Rattle.spv_alu.specs.Lanes.{zip3}
use Rattle.spv_alu.specs.Results.{defined_if}

-- the first object where the condition is true, else the second; not defined where one of the three isn't
abbrev pub select_of : Cell → Cell → Cell → Cell
select_of c a b = defined_if (c.defined && a.defined && b.defined) (if c.bits == 1 then a else b)

-- the condition of each of n leaves: one governs all of them, and several one each
abbrev pub conditions : List Cell → ℕ → List Cell
conditions [] n = []
conditions (c ∷ []) n = replicate n c
conditions (c ∷ (d ∷ cs)) n = c ∷ (d ∷ cs)

-- the leaves of two rows by their conditions
abbrev pub selected : List Cell → List Cell → List Cell → List Cell
selected cs xs ys = zip3 select_of (conditions cs (length xs)) xs ys
