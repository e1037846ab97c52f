-- Values of one outline that are stored in variables that differ in some leaves.
use Rattle.std.proofs.Common.{◌≡◌, ◌∙◌, ℕ, zero, suc, ◌+◌, ◌<◌, ◌≤◌, ◌==◌, Bool, true, false, List, [], ◌∷◌, ◌++◌, Some, map, length, slice_get, slice_set, refl, sym, ap, subst, arith}
use Rattle.std.specs.Prelude.{if◌then◌else◌}
use Rattle.std.proofs.lemmas.Bool.{eqb-true}
use Rattle.spv_base.specs.Cell.{Cell}
use Rattle.spv_base.specs.Entries.{reads, writes}
use Rattle.spv_base.specs.Parts.{part_at, with_part}
use Rattle.spv_base.specs.Variables.{Roots}
use Rattle.spv_base.specs.declared.values.Value.{Value, List as Many}
use Rattle.spv_types.specs.Rows.{leaves}
use Rattle.spv_types.proofs.Exports.{changed, has_part, many_by}
use Rattle.spv_order.specs.Order.{Holds}
use Rattle.spv_touch.specs.Ranges.{range}
use Rattle.spv_touch.specs.Views.{Differ, VariablesDiffer, outline}
use Rattle.spv_order.specs.declared.events.Leaves.{Leaves}
use Rattle.spv_touch.proofs.OutlineLemmas.{outline_many, same_before, same_count}
use Rattle.spv_touch.proofs.PartLemmas.{lies}

-- ---- rows

-- another part, and what lies outside it is as before
outside : (b r x d : List Cell) → length r ≡ length x → (m : ℕ) → (length b ≤ m → m < length b + length r → ⊥) → slice_get (b ++ (r ++ d)) m ≡ slice_get (b ++ (x ++ d)) m
outside [] [] [] d l m out = refl
outside [] [] (y ∷ x) d l m out = absurd (omega (arith, l))
outside [] (z ∷ r) [] d l m out = absurd (omega (arith, l))
outside [] (z ∷ r) (y ∷ x) d l zero out = absurd (out (omega arith) (omega arith))
outside [] (z ∷ r) (y ∷ x) d l (suc m) out = outside [] r x d (omega (arith, l)) m (λ low high. out (omega arith) (omega (arith, high)))
outside (c ∷ b) r x d l zero out = refl
outside (c ∷ b) r x d l (suc m) out = outside b r x d l m (λ low high. out (omega (arith, low)) (omega (arith, high)))

-- the same part in two rows, and where they were the same before they are so now
within : (b c r s x d e : List Cell) → length b ≡ length c → length r ≡ length x → length s ≡ length x → (m : ℕ)
    → slice_get (b ++ (r ++ d)) m ≡ slice_get (c ++ (s ++ e)) m → slice_get (b ++ (x ++ d)) m ≡ slice_get (c ++ (x ++ e)) m
within [] [] [] [] [] d e k l n m h = h
within [] [] (z ∷ r) s [] d e k l n m h = absurd (omega (arith, l))
within [] [] [] (z ∷ s) [] d e k l n m h = absurd (omega (arith, n))
within [] [] [] s (y ∷ x) d e k l n m h = absurd (omega (arith, l))
within [] [] (z ∷ r) [] (y ∷ x) d e k l n m h = absurd (omega (arith, n))
within [] [] (z ∷ r) (w ∷ s) (y ∷ x) d e k l n zero h = refl
within [] [] (z ∷ r) (w ∷ s) (y ∷ x) d e k l n (suc m) h = within [] [] r s x d e refl (omega (arith, l)) (omega (arith, n)) m h
within [] (z ∷ c) r s x d e k l n m h = absurd (omega (arith, k))
within (z ∷ b) [] r s x d e k l n m h = absurd (omega (arith, k))
within (z ∷ b) (w ∷ c) r s x d e k l n zero h = h
within (z ∷ b) (w ∷ c) r s x d e k l n (suc m) h = within b c r s x d e (omega (arith, k)) l n m h

-- ---- outlines

map_set : (vs : List Value) (k : ℕ) (u w : Value) → slice_get vs k ≡ Some u → outline w ≡ outline u → map outline (slice_set vs k w) ≡ map outline vs
map_set [] k u w h o = refl
map_set (v ∷ vs) zero u w h o = let same : v ≡ u = cc in ap (λ (x : Value). x ∷ map outline vs) (o ∙ ap outline (sym same))
map_set (v ∷ vs) (suc k) u w h o = ap (λ (xs : List Value). outline v ∷ xs) (map_set vs k u w h o)

pub put_outline : (path : List ℕ) (v w u : Value) → part_at v path ≡ Some w → outline w ≡ outline u → outline (with_part v path u) ≡ outline v
put_outline [] v w u h o = let same : v ≡ w = cc in sym o ∙ ap outline (sym same)
put_outline (k ∷ path) v w u h o =
    let p = has_part v k path w h in
    ap outline (changed v k path p.values p.part u p.is p.at) ∙ outline_many (slice_set p.values k (with_part p.part path u))
    ∙ ap Many (map_set p.values k p.part (with_part p.part path u) p.at (put_outline path p.part w u p.rest o))
    ∙ sym (outline_many p.values) ∙ ap outline (sym (many_by v p.values p.is))

-- ---- a value

pub still : (some : ℕ → Type 0) (v : Value) → Differ some v v
still some v = record { outline = refl; leaves = λ n no. refl }

-- a store changes the leaves of the part alone
pub put_differs : (id : ℕ) (v w u : Value) (path : List ℕ) → part_at v path ≡ Some w → outline w ≡ outline u → Differ (Holds (range id v path w ∷ []) id) v (with_part v path u)
put_differs id v w u path h o =
    let p = lies path v w h in
    record {
      outline = sym (put_outline path v w u h o);
      leaves = λ m no. ap (λ (row : List Cell). slice_get row m) p.row
          ∙ outside p.before (leaves w) (leaves u) p.after (same_count w u o) m (λ low high. no (range id v path w, (0, omega arith, refl), refl, omega (arith, low, p.begins), omega (arith, high, p.begins)))
          ∙ ap (λ (row : List Cell). slice_get row m) (sym (p.written u));
    }

-- and makes no others differ
pub put_alike : (some : ℕ → Type 0) (v w a b u : Value) (path : List ℕ) → Differ some v w → part_at v path ≡ Some a → part_at w path ≡ Some b → outline a ≡ outline u → outline b ≡ outline u
    → Differ some (with_part v path u) (with_part w path u)
put_alike some v w a b u path differ at_v at_w o k =
    let p = lies path v a at_v in
    let q = lies path w b at_w in
    let begins : length p.before ≡ length q.before = p.begins ∙ same_before v w path differ.outline ∙ sym q.begins in
    record {
      outline = put_outline path v a u at_v o ∙ differ.outline ∙ sym (put_outline path w b u at_w k);
      leaves = λ m no. ap (λ (row : List Cell). slice_get row m) (p.written u)
          ∙ within p.before q.before (leaves a) (leaves b) (leaves u) p.after q.after begins (same_count a u o) (same_count b u k) m
          (ap (λ (row : List Cell). slice_get row m) (sym p.row) ∙ differ.leaves m no ∙ ap (λ (row : List Cell). slice_get row m) q.row)
          ∙ ap (λ (row : List Cell). slice_get row m) (sym (q.written u));
    }

-- ---- variables

pub all_still : (some : List Leaves) (es : Roots) → VariablesDiffer some es es
all_still some [] = tt
all_still some (e ∷ es) = ((refl, still (Holds some e.0) e.1), all_still some es)

pub all_then : (some : List Leaves) (es fs gs : Roots) → VariablesDiffer some es fs → VariablesDiffer some fs gs → VariablesDiffer some es gs
all_then some [] [] [] h k = tt
all_then some [] [] (g ∷ gs) h k = absurd k
all_then some [] (f ∷ fs) gs h k = absurd h
all_then some (e ∷ es) [] gs h k = absurd h
all_then some (e ∷ es) (f ∷ fs) [] h k = absurd k
all_then some (e ∷ es) (f ∷ fs) (g ∷ gs) h k =
    let other : Differ (Holds some e.0) f.1 g.1 = subst (λ (n : ℕ). Differ (Holds some n) f.1 g.1) (sym h.0.0) k.0.1 in (
      (h.0.0 ∙ k.0.0, record { outline = h.0.1.outline ∙ other.outline; leaves = λ n no. h.0.1.leaves n no ∙ other.leaves n no }),
      all_then some es fs gs h.1 k.1,
    )

pub written : (some : List Leaves) (id : ℕ) (v w : Value) (es fs : Roots) → VariablesDiffer some es fs → Differ (Holds some id) v w → VariablesDiffer some (writes id v es) (writes id w fs)
written some id v w [] [] h differ = tt
written some id v w [] (f ∷ fs) h differ = absurd h
written some id v w (e ∷ es) [] h differ = absurd h
written some id v w (e ∷ es) (f ∷ fs) h differ =
    subst (λ (k : Bool). VariablesDiffer some (if e.0 == id then (e.0, v) ∷ es else e ∷ writes id v es) (if k then (f.0, w) ∷ fs else f ∷ writes id w fs)) (ap (λ (k : ℕ). k == id) h.0.0)
    (test (e.0 == id) refl (written some id v w es fs h.1 differ))
  where
    test : (b : Bool) → (e.0 == id) ≡ b → VariablesDiffer some (writes id v es) (writes id w fs)
        → VariablesDiffer some (if b then (e.0, v) ∷ es else e ∷ writes id v es) (if b then (f.0, w) ∷ fs else f ∷ writes id w fs)
    test false is rest = (h.0, rest)
    test true is rest = ((h.0.0, subst (λ (k : ℕ). Differ (Holds some k) v w) (sym (eqb-true e.0 id is)) differ), h.1)

pub writes_same : (id : ℕ) (v : Value) (es : Roots) → reads id es ≡ Some v → writes id v es ≡ es
writes_same id v [] h = refl
writes_same id v (e ∷ es) h = test (e.0 == id) refl h (writes_same id v es)
  where
    test : (b : Bool) → (e.0 == id) ≡ b → (if b then Some e.1 else reads id es) ≡ Some v → (reads id es ≡ Some v → writes id v es ≡ es) → (if b then (e.0, v) ∷ es else e ∷ writes id v es) ≡ e ∷ es
    test true is h rest = let same : e.1 ≡ v = cc in ap (λ (x : Value). (e.0, x) ∷ es) (sym same)
    test false is h rest = ap (λ (fs : Roots). e ∷ fs) (rest h)
