-- Values of one cell.
use Rattle.std.proofs.Common.{◌≡◌, ◌∙◌, ℕ, zero, suc, ◌+◌, ◌<◌, List, [], ◌∷◌, ◌++◌, Some, get_or, length, slice_set, arith, refl, sym, ap, take, drop}
use Rattle.spv_base.specs.Cell.{Cell}
use Rattle.spv_base.specs.Parts.{part_at, with_part}
use Rattle.spv_base.specs.declared.values.Value.{Value}
use Rattle.spv_types.specs.Rows.{leaves}
use Rattle.spv_values.specs.Places.{IsRowAt}

-- a list of one cell
pub one_cell : (cs : List Cell) (d : Cell) → length cs ≡ 1 → cs ≡ get_or cs 0 d ∷ []
one_cell [] d h = absurd (omega arith)
one_cell (c ∷ []) d h = refl
one_cell (c ∷ b ∷ cs) d h = absurd (omega arith)

one_taken : (cs : List Cell) (n : ℕ) (d : Cell) → n < length cs → take 1 (drop n cs) ≡ get_or cs n d ∷ []
one_taken [] n d h = absurd (omega arith)
one_taken (c ∷ cs) zero d h = refl
one_taken (c ∷ cs) (suc n) d h = one_taken cs n d (omega arith)

one_put : (cs : List Cell) (n : ℕ) (x : Cell) → n < length cs → slice_set cs n x ≡ take n cs ++ (x ∷ drop (suc n) cs)
one_put [] n x h = absurd (omega arith)
one_put (c ∷ cs) zero x h = refl
one_put (c ∷ cs) (suc n) x h = ap (λ (ts : List Cell). c ∷ ts) (one_put cs n x (omega arith))

pub cell_within : (v : Value) (path : List ℕ) (n : ℕ) → IsRowAt v path n 1 → n < length (leaves v)
cell_within v path n h = let w = h.within in omega arith

-- the cell of a part
pub cell_is : (v w : Value) (path : List ℕ) (n : ℕ) (d : Cell) → IsRowAt v path n 1 → part_at v path ≡ Some w → leaves w ≡ get_or (leaves v) n d ∷ []
cell_is v w path n d h is = sym (h.row w is) ∙ one_taken (leaves v) n d (cell_within v path n h)

-- another cell in its place
pub cell_put : (v u : Value) (path : List ℕ) (n : ℕ) (x : Cell) → IsRowAt v path n 1 → leaves u ≡ x ∷ [] → leaves (with_part v path u) ≡ slice_set (leaves v) n x
cell_put v u path n x h is =
    let next : n + 1 ≡ suc n = omega arith in
    h.written u ∙ ap (λ (us : List Cell). take n (leaves v) ++ (us ++ drop (n + 1) (leaves v))) is
    ∙ ap (λ (m : ℕ). take n (leaves v) ++ (x ∷ drop m (leaves v))) next ∙ sym (one_put (leaves v) n x (cell_within v path n h))
