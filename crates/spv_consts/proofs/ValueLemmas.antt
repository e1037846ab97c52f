-- The widths of the leaves of a type are made of its form; copies of lists.
use Rattle.std.proofs.Common.{◌≡◌, ◌∙◌, ℕ, zero, suc, ◌+◌, ◌-◌, ◌*◌, ◌≤◌, List, [], ◌∷◌, ◌++◌, length, drop, take, map, replicate, append_assoc, append-nil, add-one, length-append, None, Result, refl, sym, ap, arith}
use Rattle.std.proofs.lemmas.List.{drop-append-le, length-drop, map-append}
use Rattle.std.proofs.Math.Nat.{add_comm, mul-le-mul_right, suc-mul}
use Rattle.std.proofs.Math.Seq.{drop-append_seam, take-append_seam}
use Rattle.std.specs.List.{flat_map}
use Rattle.std.specs.Option.{option_map_or}
use Rattle.std.specs.Result.{OnOk}
use Rattle.spv_types.specs.declared.forms.Form.{Form}
use Rattle.spv_types.specs.Types.{Types, found_among}
use Rattle.spv_types.proofs.Exports.{in_first-is}
use Rattle.std.proofs.lemmas.Result.{on_ok_weaker}
use Rattle.spv_consts.specs.Copies.{copies}
use Rattle.spv_consts.specs.Values.{widths_among, widths_step}

pub widths_among_is : (ts : Types) (n id : ℕ) → widths_among ts n id ≡ option_map_or (λ (f : ℕ × Form). widths_step (widths_among ts f.0) f.1) (found_among ts n id) []
unfolding widths_among
widths_among_is ts n id = in_first-is [] widths_step ts n id

-- so many copies
copies_first : {A : Type 0} (n : ℕ) (xs : List A) → copies (suc n) xs ≡ xs ++ copies n xs
unfolding copies
copies_first n xs = refl

copies_add : {A : Type 0} (m n : ℕ) (xs : List A) → copies (m + n) xs ≡ copies m xs ++ copies n xs
unfolding copies
copies_add zero n xs = let e : zero + n ≡ n = omega arith in rw e refl
copies_add (suc m) n xs =
    let e : suc m + n ≡ suc (m + n) = omega arith in
    rw e (ap (λ (ys : List _). xs ++ ys) (copies_add m n xs) ∙ sym (append_assoc xs (copies m xs) (copies n xs)))

copies_long : {A : Type 0} (n : ℕ) (xs : List A) → length (copies n xs) ≡ n * length xs
unfolding copies
copies_long zero xs = let e : zero * length xs ≡ 0 = omega arith in sym e
copies_long (suc n) xs = length-append xs (copies n xs) ∙ rw (copies_long n xs, suc-mul) (add_comm (length xs) (n * length xs))

-- what equal types give is so many copies
pub map_repeated : {A B : Type 0} (f : A → B) (g : ℕ → List A) (n t : ℕ) → map f (flat_map g (replicate n t)) ≡ copies n (map f (g t))
unfolding copies
map_repeated f g zero t = refl
map_repeated f g (suc n) t = map-append f (g t) (flat_map g (replicate n t)) ∙ ap (λ (ys : List _). map f (g t) ++ ys) (map_repeated f g n t)

pub repeat_start : {A : Type 0} (start : ℕ) (xs : List A) → xs ≡ xs ++ copies 0 (drop start xs)
unfolding copies
repeat_start start xs = sym (append-nil xs)

-- the rows that stand behind the first items lie inside
pub rows_inside : {A : Type 0} (n count start row : ℕ) (first xs : List A) → start ≤ length first → row ≡ length first - start → xs ≡ first ++ copies n (drop start first) → count ≤ n + 1
    → start + count * row ≤ length xs
rows_inside n count start row first xs le long is few =
    let own : length (drop start first) ≡ row = length-drop start first ∙ sym long in
    let all : length xs ≡ length first + n * row = ap length is ∙ length-append first (copies n (drop start first)) ∙ ap (λ k. length first + k) (copies_long n (drop start first) ∙ ap (λ k. n * k) own) in
    let most : count * row ≤ (n + 1) * row = mul-le-mul_right row few in
    let more : (n + 1) * row ≡ n * row + row = rw add-one (suc-mul n row) in
    omega (arith, all, most, more, long, le)

-- more of these rows
pub rows_more : {A : Type 0} (n count start row : ℕ) (first xs now : List A) → start ≤ length first → row ≡ length first - start → xs ≡ first ++ copies n (drop start first) → count ≤ n + 1
    → now ≡ xs ++ take (count * row) (drop start xs) → now ≡ first ++ copies (n + count) (drop start first)
rows_more n count start row first xs now le long is few more =
    let own : length (drop start first) ≡ row = length-drop start first ∙ sym long in
    let split : count + (suc n - count) ≡ suc n = omega arith in
    let there : drop start xs ≡ copies count (drop start first) ++ copies (suc n - count) (drop start first) =
    ap (drop start) is ∙ drop-append-le start first (copies n (drop start first)) le ∙ sym (copies_first n (drop start first))
    ∙ ap (λ k. copies k (drop start first)) (sym split) ∙ copies_add count (suc n - count) (drop start first) in
    let size : count * row ≡ length (copies count (drop start first)) = sym (copies_long count (drop start first) ∙ ap (λ k. count * k) own) in
    let taken : take (count * row) (drop start xs) ≡ copies count (drop start first) =
    ap (take (count * row)) there ∙ ap (λ k. take k (copies count (drop start first) ++ copies (suc n - count) (drop start first))) size
    ∙ take-append_seam (copies count (drop start first)) (copies (suc n - count) (drop start first)) in
    more ∙ ap (λ (ys : List _). xs ++ ys) taken ∙ ap (λ (ys : List _). ys ++ copies count (drop start first)) is
    ∙ append_assoc first (copies n (drop start first)) (copies count (drop start first)) ∙ ap (λ (ys : List _). first ++ ys) (sym (copies_add n count (drop start first)))

-- ---- what is appended

pub none_added : {A B : Type 0} (f : A → B) (xs : List B) (ys : List A) → ys ≡ [] → xs ≡ xs ++ map f ys
none_added f xs ys h = rw h (sym (append-nil xs))

pub no_copies : {A : Type 0} (n : ℕ) (xs ys : List A) → n ≡ 0 → xs ≡ xs ++ copies n ys
unfolding copies
no_copies n xs ys h = rw h (sym (append-nil xs))

pub widths_none : (ts : Types) (n id : ℕ) → found_among ts n id ≡ None → widths_among ts n id ≡ []
widths_none ts n id h = widths_among_is ts n id ∙ rw h refl

pub map_members : {A B C : Type 0} (f : A → B) (g : ℕ → List A) (h : C → ℕ) (ms : List C) → map f (flat_map g (map h ms)) ≡ flat_map (λ (m : C). map f (g (h m))) ms
map_members f g h [] = refl
map_members f g h (m ∷ ms) = map-append f (g (h m)) (flat_map g (map h ms)) ∙ ap (λ (ys : List _). map f (g (h m)) ++ ys) (map_members f g h ms)

pub repeated_is : {A T E : Type 0} (r : Result T E) (count start : ℕ) (old row mid new : List A) → (count ≡ 0 → ⊥) → start ≡ length old → mid ≡ old ++ row
    → OnOk r (new ≡ mid ++ copies (count - 1) (drop start mid)) → OnOk r (new ≡ old ++ copies count row)
repeated_is r count start old row mid new some from same h = on_ok_weaker r (λ e. e ∙ rw (same, from, drop-append_seam old row, append_assoc) (ap (λ (ys : List _). old ++ ys) (one_more count some))) h
  where
    one_more : (n : ℕ) → (n ≡ 0 → ⊥) → row ++ copies (n - 1) row ≡ copies n row
    one_more zero none = absurd (none refl)
    one_more (suc n) none = let e : suc n - 1 ≡ n = omega arith in rw e (sym (copies_first n row))
