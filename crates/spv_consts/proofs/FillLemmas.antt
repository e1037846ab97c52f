-- Leaves that go with widths: one for each, of that width.
use Rattle.std.proofs.Common.{◌≡◌, ℕ, zero, suc, ◌≤◌, min, Bool, List, [], ◌∷◌, ◌++◌, map, replicate, refl, ap, arith}
use Rattle.std.specs.List.{AllByRecursion, AllZip}
use Rattle.std.specs.Simd.Lanes.{zip2}
use Rattle.spv_base.specs.Cell.{Cell, HasWidth}
use Rattle.spv_alu.specs.Lanes.{zip3}
use Rattle.spv_consts.specs.Values.{blank_cell}
use Rattle.spv_consts.proofs.ScalarShapes.{blank_is_lane}

-- leaves go with widths
abbrev pub Fill : List ℕ → List Cell → Type 0
Fill ws cs = AllZip HasWidth ws cs

pub fill_append : (ws vs : List ℕ) (cs ds : List Cell) → Fill ws cs → Fill vs ds → Fill (ws ++ vs) (cs ++ ds)
fill_append [] vs [] ds h g = g
fill_append [] vs (c ∷ cs) ds h g = absurd h
fill_append (w ∷ ws) vs [] ds h g = absurd h
fill_append (w ∷ ws) vs (c ∷ cs) ds h g = (h.0, fill_append ws vs cs ds h.1 g)

pub fill_split : (ws vs : List ℕ) (cs : List Cell) → Fill (ws ++ vs) cs → (ds : List Cell) × (es : List Cell) × (cs ≡ ds ++ es) × Fill ws ds × Fill vs es
fill_split [] vs cs h = ([], cs, refl, tt, h)
fill_split (w ∷ ws) vs [] h = absurd h
fill_split (w ∷ ws) vs (c ∷ cs) h =
    let r = fill_split ws vs cs h.1 in
    (c ∷ r.0, r.1, ap (λ (xs : List Cell). c ∷ xs) r.2, (h.0, r.3), r.4)

pub fill_blank : (defined : Bool) (ws : List ℕ) → AllByRecursion (λ (w : ℕ). w ≤ 64) ws → Fill ws (map (blank_cell defined) ws)
fill_blank defined [] h = tt
fill_blank defined (w ∷ ws) h =
    let narrow : w ≤ 64 = h.0 in
    let same : min w 64 ≡ w = omega arith in
    ((same, blank_is_lane defined w), fill_blank defined ws h.1)

-- ---- operations

pub fill_one : (f : Cell → Cell) (v u n : ℕ) → ((c : Cell) → HasWidth v c → HasWidth u (f c)) → (cs : List Cell) → Fill (replicate n v) cs → Fill (replicate n u) (map f cs)
fill_one f v u zero keeps [] h = tt
fill_one f v u zero keeps (c ∷ cs) h = absurd h
fill_one f v u (suc n) keeps [] h = absurd h
fill_one f v u (suc n) keeps (c ∷ cs) h = (keeps c h.0, fill_one f v u n keeps cs h.1)

pub fill_two : (f : Cell → Cell → Cell) (v w u n : ℕ) → ((c d : Cell) → HasWidth v c → HasWidth w d → HasWidth u (f c d))
    → (cs ds : List Cell) → Fill (replicate n v) cs → Fill (replicate n w) ds → Fill (replicate n u) (zip2 f cs ds)
fill_two f v w u zero keeps [] ds h g = tt
fill_two f v w u zero keeps (c ∷ cs) ds h g = absurd h
fill_two f v w u (suc n) keeps [] ds h g = absurd h
fill_two f v w u (suc n) keeps (c ∷ cs) [] h g = absurd g
fill_two f v w u (suc n) keeps (c ∷ cs) (d ∷ ds) h g = (keeps c d h.0 g.0, fill_two f v w u n keeps cs ds h.1 g.1)

-- two rows of one type
pub fill_pair : (f : Cell → Cell → Cell) → ((w : ℕ) (c d : Cell) → HasWidth w c → HasWidth w d → HasWidth w (f c d))
    → (ws : List ℕ) (cs ds : List Cell) → Fill ws cs → Fill ws ds → Fill ws (zip2 f cs ds)
fill_pair f keeps [] [] ds h g = tt
fill_pair f keeps [] (c ∷ cs) ds h g = absurd h
fill_pair f keeps (w ∷ ws) [] ds h g = absurd h
fill_pair f keeps (w ∷ ws) (c ∷ cs) [] h g = absurd g
fill_pair f keeps (w ∷ ws) (c ∷ cs) (d ∷ ds) h g = (keeps w c d h.0 g.0, fill_pair f keeps ws cs ds h.1 g.1)

pub fill_three : (f : Cell → Cell → Cell → Cell) (v w n : ℕ) → ((t c d : Cell) → HasWidth v t → HasWidth w c → HasWidth w d → HasWidth w (f t c d))
    → (ts cs ds : List Cell) → Fill (replicate n v) ts → Fill (replicate n w) cs → Fill (replicate n w) ds → Fill (replicate n w) (zip3 f ts cs ds)
fill_three f v w zero keeps [] cs ds e h g = tt
fill_three f v w zero keeps (t ∷ ts) cs ds e h g = absurd e
fill_three f v w (suc n) keeps [] cs ds e h g = absurd e
fill_three f v w (suc n) keeps (t ∷ ts) [] ds e h g = absurd h
fill_three f v w (suc n) keeps (t ∷ ts) (c ∷ cs) [] e h g = absurd g
fill_three f v w (suc n) keeps (t ∷ ts) (c ∷ cs) (d ∷ ds) e h g = (keeps t c d e.0 h.0 g.0, fill_three f v w n keeps ts cs ds e.1 h.1 g.1)
