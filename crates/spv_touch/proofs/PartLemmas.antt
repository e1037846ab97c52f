-- Parts of two values of one outline that differ in leaves outside the part.
use Rattle.std.proofs.Common.{◌≡◌, ◌∙◌, ℕ, zero, suc, ◌+◌, ◌<◌, ◌≤◌, List, [], ◌∷◌, ◌++◌, Some, length, length-append, append_assoc, append-nil, take, drop, slice_get, slice_set, refl, sym, ap, arith}
use Rattle.std.specs.List.{flat_map}
use Rattle.std.specs.Option.{option_map}
use Rattle.spv_base.specs.Cell.{Cell}
use Rattle.spv_base.specs.Parts.{part_at, with_part}
use Rattle.spv_base.specs.declared.values.Value.{Value, List as Many, out-Value}
use Rattle.spv_base.specs.declared.values.Value.TheOpen.{Value-F}
use Rattle.spv_types.specs.Rows.{leaves, Lies}
use Rattle.spv_types.proofs.Exports.{changed, has_part, leaves_many, many_row}
use Rattle.spv_touch.specs.Ranges.{before, count}
use Rattle.spv_touch.specs.Views.{Differ, outline}
use Rattle.spv_touch.proofs.OutlineLemmas.{same_before, same_count, same_parts, same_value}

-- ---- a list of values, with one in the midst

row_split : (vs : List Value) (i : ℕ) (u : Value) → slice_get vs i ≡ Some u
    → flat_map leaves vs ≡ flat_map leaves (take i vs) ++ (leaves u ++ flat_map leaves (drop (suc i) vs))
row_split [] i u h = cc
row_split (v ∷ vs) zero u h = let e : v ≡ u = cc in rw e refl
row_split (v ∷ vs) (suc i) u h = rw (row_split vs i u h) (sym (append_assoc (leaves v) (flat_map leaves (take i vs)) (leaves u ++ flat_map leaves (drop (suc i) vs))))

row_changed : (vs : List Value) (i : ℕ) (u w : Value) → slice_get vs i ≡ Some u
    → flat_map leaves (slice_set vs i w) ≡ flat_map leaves (take i vs) ++ (leaves w ++ flat_map leaves (drop (suc i) vs))
row_changed [] i u w h = cc
row_changed (v ∷ vs) zero u w h = refl
row_changed (v ∷ vs) (suc i) u w h = rw (row_changed vs i u w h) (sym (append_assoc (leaves v) (flat_map leaves (take i vs)) (leaves w ++ flat_map leaves (drop (suc i) vs))))

three : (a b c d e : List Cell) → a ++ ((b ++ (c ++ d)) ++ e) ≡ (a ++ b) ++ (c ++ (d ++ e))
three a b c d e = simp append_assoc

-- ---- a part lies behind the leaves that stand before it

before_is : (v : Value) (i : ℕ) (path : List ℕ) (vs : List Value) (u : Value) → out-Value v ≡ Value-F.List vs → slice_get vs i ≡ Some u
    → before v (i ∷ path) ≡ count (Many (take i vs)) + before u path
before_is v i path vs u e g = rw (e, g) refl

pub lies : (path : List ℕ) (v w : Value) → part_at v path ≡ Some w → Lies v path w (before v path)
lies [] v w h =
    let same : v ≡ w = cc in
    record { before = []; after = []; begins = refl; row = sym (append-nil (leaves v)) ∙ ap (λ (x : Value). leaves x ++ []) same; written = λ u. sym (append-nil (leaves u)) }
lies (i ∷ path) v w h =
    let p = has_part v i path w h in
    let inner : Lies p.part path w (before p.part path) = lies path p.part w p.rest in
    let first : List Cell = flat_map leaves (take i p.values) in
    let last : List Cell = flat_map leaves (drop (suc i) p.values) in
    record {
      before = first ++ inner.before;
      after = inner.after ++ last;
      begins = length-append first inner.before ∙ ap (λ (n : ℕ). length first + n) inner.begins
          ∙ ap (λ (n : ℕ). n + before p.part path) (ap length (sym (leaves_many (take i p.values)))) ∙ sym (before_is v i path p.values p.part p.is p.at);
      row = many_row v p.values p.is ∙ row_split p.values i p.part p.at ∙ ap (λ (x : List Cell). first ++ (x ++ last)) inner.row ∙ three first inner.before (leaves w) inner.after last;
      written = λ u. ap leaves (changed v i path p.values p.part u p.is p.at) ∙ leaves_many (slice_set p.values i (with_part p.part path u)) ∙ row_changed p.values i p.part (with_part p.part path u) p.at
          ∙ ap (λ (x : List Cell). first ++ (x ++ last)) (inner.written u) ∙ three first inner.before (leaves u) inner.after last;
    }

-- ---- rows that are the same where the part lies

same_rows : (b c r s d e : List Cell) → length b ≡ length c → length r ≡ length s
    → ((m : ℕ) → length b ≤ m → m < length b + length r → slice_get (b ++ (r ++ d)) m ≡ slice_get (c ++ (s ++ e)) m) → r ≡ s
same_rows [] [] [] [] d e k l h = refl
same_rows [] [] [] (y ∷ s) d e k l h = absurd (omega (arith, l))
same_rows [] [] (x ∷ r) [] d e k l h = absurd (omega (arith, l))
same_rows [] [] (x ∷ r) (y ∷ s) d e k l h =
    let here : Some x ≡ Some y = h 0 (omega arith) (omega arith) in
    let one : x ≡ y = cc in
    let rest : r ≡ s = same_rows [] [] r s d e refl (omega (arith, l)) (λ m low high. h (suc m) (omega arith) (omega (arith, high))) in
    cc
same_rows [] (z ∷ c) r s d e k l h = absurd (omega (arith, k))
same_rows (x ∷ b) [] r s d e k l h = absurd (omega (arith, k))
same_rows (x ∷ b) (z ∷ c) r s d e k l h =
    same_rows b c r s d e (omega (arith, k)) l (λ m low high. h (suc m) (omega (arith, low)) (omega (arith, high)))

-- values that differ in leaves outside a part have it both
pub same_part : (some : ℕ → Type 0) (v w a b : Value) (path : List ℕ) → Differ some v w → part_at v path ≡ Some a → part_at w path ≡ Some b
    → ((m : ℕ) → before v path ≤ m → m < before v path + count a → some m → ⊥) → a ≡ b
same_part some v w a b path differ at_v at_w apart =
    let parts : option_map outline (Some a) ≡ option_map outline (Some b) =
    sym (ap (option_map outline) at_v) ∙ same_parts v w path differ.outline ∙ ap (option_map outline) at_w in
    let outlines : outline a ≡ outline b = cc in
    let p = lies path v a at_v in
    let q = lies path w b at_w in
    let begins : length p.before ≡ length q.before = p.begins ∙ same_before v w path differ.outline ∙ sym q.begins in
    same_value a b outlines (same_rows p.before q.before (leaves a) (leaves b) p.after q.after begins (same_count a b outlines)
    (λ m low high. ap (λ (row : List Cell). slice_get row m) (sym p.row)
    ∙ differ.leaves m (apart m (omega (arith, low, p.begins)) (omega (arith, high, p.begins))) ∙ ap (λ (row : List Cell). slice_get row m) q.row))
