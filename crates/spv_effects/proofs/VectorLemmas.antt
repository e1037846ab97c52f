-- Components of vectors by their numbers.
use Rattle.std.proofs.Common.{◌≡◌, ◌∙◌, ℕ, ◌-◌, ◌<◌, ◌≤◌, List, [], ◌∷◌, ◌++◌, length, get_or, refl, sym, ap, arith}
use Rattle.std.proofs.lemmas.List.{get_or-append_right, get_or_append_left, get_or_default, get_or_past}
use Rattle.spv_alu.specs.Vectors.{component_width}
use Rattle.spv_base.specs.Cell.{Cell, undefined_cell}
use Rattle.spv_effects.specs.Vectors.{component}

pub first_width : (cs : List Cell) (c : Cell) → 0 < length cs → c ≡ get_or cs 0 c → undefined_cell c.width ≡ undefined_cell (component_width cs)
first_width cs c h e = ap (λ (d : Cell). undefined_cell d.width) (e ∙ get_or_default cs 0 c (undefined_cell 0) h)

pub component_there : (cs : List Cell) (i : ℕ) (c : Cell) → i < length cs → c ≡ get_or cs i c → c ≡ component cs i
component_there cs i c h e = e ∙ get_or_default cs i c (undefined_cell (component_width cs)) h

pub component_past : (cs : List Cell) (i : ℕ) → length cs ≤ i → undefined_cell (component_width cs) ≡ component cs i
component_past cs i h = sym (get_or_past cs i (undefined_cell (component_width cs)) h)

-- ---- two vectors

both_width : (cs ds : List Cell) → 0 < length cs → component_width (cs ++ ds) ≡ component_width cs
both_width [] ds h = absurd (omega arith)
both_width (c ∷ cs) ds h = refl

pub component_left : (cs ds : List Cell) (i : ℕ) (c : Cell) → i < length cs → c ≡ get_or cs i c → c ≡ component (cs ++ ds) i
component_left cs ds i c h e =
    let d : Cell = undefined_cell (component_width (cs ++ ds)) in
    e ∙ get_or_default cs i c d h ∙ sym (get_or_append_left cs ds d i h)

pub component_right : (cs ds : List Cell) (i k : ℕ) (c : Cell) → length cs ≤ i → k ≡ i - length cs → k < length ds → c ≡ get_or ds k c → c ≡ component (cs ++ ds) i
component_right cs ds i k c h s l e =
    let d : Cell = undefined_cell (component_width (cs ++ ds)) in
    e ∙ get_or_default ds k c d l ∙ ap (λ (j : ℕ). get_or ds j d) s ∙ sym (get_or-append_right cs ds (length cs) i d refl h)

pub component_neither : (cs ds : List Cell) (i k : ℕ) → 0 < length cs → length cs ≤ i → k ≡ i - length cs → length ds ≤ k → undefined_cell (component_width cs) ≡ component (cs ++ ds) i
component_neither cs ds i k p h s l =
    let d : Cell = undefined_cell (component_width (cs ++ ds)) in
    ap undefined_cell (sym (both_width cs ds p)) ∙ sym (get_or_past ds k d l) ∙ ap (λ (j : ℕ). get_or ds j d) s ∙ sym (get_or-append_right cs ds (length cs) i d refl h)
