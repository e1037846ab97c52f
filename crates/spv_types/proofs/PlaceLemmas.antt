-- The place of a leaf is that of its form, and the rows and members that it lies in.
use Rattle.std.proofs.Common.{◌≡◌, ◌∙◌, ◌⊎◌, ℕ, ◌+◌, ◌-◌, ◌*◌, ◌/◌, ◌%◌, ◌^◌, ◌<◌, ◌≤◌, List, [], ◌∷◌, length, true, false, Option, Some, None, inl, inr, zero, suc, refl, sym, ap, drop, drop_of_length-le, take, get_or, arith}
use Rattle.std.specs.Option.{IsSomeAnd, option_map, option_map_or, option_and_then}
use Rattle.std.specs.Prelude.{min, nat_lt}
use Rattle.std.proofs.Math.Nat.{div-eq_of_lt, mod-eq_of_lt}
use Rattle.std.proofs.lemmas.Bool.{cases_lt, lt-ltb}
use Rattle.spv_types.specs.declared.forms.Member.{Member}
use Rattle.spv_types.specs.declared.forms.Form.{Form}
use Rattle.spv_types.specs.Types.{Types, found_among, in_first}
use Rattle.spv_base.specs.Saturation.{saturated}
use Rattle.spv_types.specs.Places.{BeginsBy, place_among, place_step, place_by, place_in_member, place_in_members, place_in_elements, place_in_row, row_number}
use Rattle.spv_types.specs.Cells.{cells_of, members_cells}
use Rattle.spv_types.proofs.CellLemmas.{added_is, members_cells_more}
use Rattle.spv_types.proofs.TypeLemmas.{in_first-is}
use Rattle.spv_base.proofs.Exports.{not_below, some_with}

-- the place of a leaf in a type that is found, or none
abbrev pub found_place : Types → Option (ℕ × Form) → ℕ → Option ℕ
found_place ts None leaf = None
found_place ts (Some f) leaf = place_step ts (place_among ts f.0) f.1 leaf

pub place_among_is : (ts : Types) (n id leaf : ℕ) → place_among ts n id leaf ≡ found_place ts (found_among ts n id) leaf
unfolding place_among
place_among_is ts n id leaf = ap (λ (f : ℕ → Option ℕ). f leaf) (in_first-is {A = ℕ → Option ℕ} (λ leaf. None) (place_step ts) ts n id) ∙ found (found_among ts n id)
  where
    found : (o : Option (ℕ × Form)) → option_map_or {U = ℕ → Option ℕ} (λ (f : ℕ × Form). place_step ts (in_first (λ leaf. None) (place_step ts) ts f.0) f.1) o (λ leaf. None) leaf ≡ found_place ts o leaf
    found None = refl
    found (Some f) = refl

pub none_through : (s : ℕ) (o : Option ℕ) → None ≡ option_map saturated o → None ≡ option_map saturated (option_map (λ n. s + n) o)
none_through s None h = refl
none_through s (Some n) h = cc

pub plus_saturated : (s w : ℕ) (o : Option ℕ) → Some w ≡ option_map saturated o → Some (min (s + w) (2 ^ 64 - 1)) ≡ option_map saturated (option_map (λ n. s + n) o)
plus_saturated s w None h = cc
plus_saturated s w (Some n) h = let e : w ≡ saturated n = cc in let f : min (s + w) (2 ^ 64 - 1) ≡ saturated (s + n) = omega arith in ap Some f

pub div_saturated : (leaf w : ℕ) → leaf < 67108864 → leaf / saturated w ≡ leaf / w
div_saturated leaf w l = elim (cases_lt w (2 ^ 64)) [
  | inl less ↦ let e : saturated w ≡ w = omega arith in rw e refl
  | inr more ↦ let e : saturated w ≡ 18446744073709551615 = omega arith in rw (e, div-eq_of_lt {n = leaf} {m = 18446744073709551615} (omega arith), div-eq_of_lt {n = leaf} {m = w} (omega arith)) refl
]

pub rem_saturated : (leaf w : ℕ) → leaf < 67108864 → leaf % saturated w ≡ leaf % w
rem_saturated leaf w l = elim (cases_lt w (2 ^ 64)) [
  | inl less ↦ let e : saturated w ≡ w = omega arith in rw e refl
  | inr more ↦ let e : saturated w ≡ 18446744073709551615 = omega arith in rw (e, mod-eq_of_lt {n = leaf} {m = 18446744073709551615} (omega arith), mod-eq_of_lt {n = leaf} {m = w} (omega arith)) refl
]

here : (o : Option ℕ) (left k : ℕ) (x : Option ℕ) (f : ℕ → Option ℕ) → option_map saturated o ≡ Some k → left < k → place_by left x f o ≡ x
here None left k x f h l = cc
here (Some n) left k x f h l = let e : saturated n ≡ k = cc in let t : nat_lt left n ≡ true = lt-ltb left n (omega arith) in rw t refl

any : (o : Option ℕ) (left : ℕ) (x : Option ℕ) (f : ℕ → Option ℕ) → option_map saturated o ≡ None → place_by left x f o ≡ x
any None left x f h = refl
any (Some n) left x f h = cc

later : (o : Option ℕ) (left k : ℕ) (x : Option ℕ) (f : ℕ → Option ℕ) → left < 67108864 → option_map saturated o ≡ Some k → k ≤ left → place_by left x f o ≡ f (left - k)
later None left k x f b h l = cc
later (Some n) left k x f b h l = let e : saturated n ≡ k = cc in let s : n ≡ k = omega arith in let t : nat_lt left n ≡ false = not_below left n (omega arith) in rw (t, s) refl

module _ (cells : ℕ → Option ℕ) (place : ℕ → ℕ → Option ℕ) where
  pub in_members_end : (leaf : ℕ) → place_in_members cells place [] leaf ≡ None
  unfolding place_in_members
  in_members_end leaf = refl

  pub in_members_any : (ms : List Member) (i left : ℕ) (d : Member) → i < length ms → option_map saturated (cells (get_or ms i d).ty) ≡ None → place_in_members cells place (drop i ms) left ≡ place_in_member place (get_or ms i d) left
  unfolding place_in_members
  in_members_any [] i left d l h = absurd (omega arith)
  in_members_any (m ∷ ms) zero left d l h = any (cells m.ty) left _ (place_in_members cells place ms) h
  in_members_any (m ∷ ms) (suc i) left d l h = in_members_any ms i left d (omega arith) h

  pub in_members_here : (ms : List Member) (i left k : ℕ) (d : Member) → i < length ms → option_map saturated (cells (get_or ms i d).ty) ≡ Some k → left < k → place_in_members cells place (drop i ms) left ≡ place_in_member place (get_or ms i d) left
  unfolding place_in_members
  in_members_here [] i left k d l h b = absurd (omega arith)
  in_members_here (m ∷ ms) zero left k d l h b = here (cells m.ty) left k _ (place_in_members cells place ms) h b
  in_members_here (m ∷ ms) (suc i) left k d l h b = in_members_here ms i left k d (omega arith) h b

  pub in_members_later : (ms : List Member) (i left k : ℕ) (d : Member) → i < length ms → left < 67108864 → option_map saturated (cells (get_or ms i d).ty) ≡ Some k → k ≤ left → place_in_members cells place (drop i ms) left ≡ place_in_members cells place (drop (i + 1) ms) (left - k)
  unfolding place_in_members
  in_members_later [] i left k d l n h b = absurd (omega arith)
  in_members_later (m ∷ ms) zero left k d l n h b = later (cells m.ty) left k _ (place_in_members cells place ms) n h b
  in_members_later (m ∷ ms) (suc i) left k d l n h b = let e : suc i + 1 ≡ suc (i + 1) = omega arith in rw e (in_members_later ms i left k d (omega arith) n h b)

pub elements_at : (ts : Types) (place : ℕ → ℕ → Option ℕ) (element : ℕ) (count : Option ℕ) (stride leaf k w : ℕ) → leaf < 67108864 → Some w ≡ option_map saturated (cells_of ts element) → Some k ≡ row_number w count leaf
    → place_in_elements ts place element count stride leaf ≡ option_map (λ n. k * stride + n) (place element (leaf % w))
elements_at ts place element count stride leaf k w l h e = row (cells_of ts element) (place element) count stride leaf k w l h e
  where
    row : (o : Option ℕ) (place : ℕ → Option ℕ) (count : Option ℕ) (stride leaf k w : ℕ) → leaf < 67108864 → Some w ≡ option_map saturated o → Some k ≡ row_number w count leaf
        → option_and_then (λ cells. place_in_row cells count stride place leaf) o ≡ option_map (λ n. k * stride + n) (place (leaf % w))
    row None place count stride leaf k w l h e = cc
    row (Some c) place count stride leaf k w l h e =
        let same : w ≡ saturated c = cc in
        let d = div_saturated leaf c l in
        let r = rem_saturated leaf c l in
        let z : nat_lt 0 (saturated c) ≡ nat_lt 0 c = above_zero c in
        let f : row_number w count leaf ≡ row_number c count leaf = rw (same, d, z) refl in
        let g : row_number c count leaf ≡ Some k = cc in
        rw (g, same, r) refl
      where
        above_zero : (c : ℕ) → nat_lt 0 (saturated c) ≡ nat_lt 0 c
        above_zero zero = refl
        above_zero (suc c) = lt-ltb 0 (saturated (suc c)) (omega arith) ∙ sym (lt-ltb 0 (suc c) (omega arith))

-- ---- the member in which a leaf lies

pub begins_first : (cells : ℕ → Option ℕ) (ms : List Member) (leaf : ℕ) → BeginsBy cells ms 0 leaf
unfolding members_cells
begins_first cells ms leaf = omega arith

module _ (cells : ℕ → Option ℕ) (place : ℕ → ℕ → Option ℕ) where
  -- a leaf behind the first members is a leaf of the others
  pub in_members_from : (ms : List Member) (i n leaf : ℕ) → members_cells cells (take i ms) ≡ Some n → n ≤ leaf → place_in_members cells place ms leaf ≡ place_in_members cells place (drop i ms) (leaf - n)
  unfolding place_in_members members_cells
  in_members_from ms zero n leaf h l = let e : n ≡ 0 = cc in let f : leaf - n ≡ leaf = omega arith in rw f refl
  in_members_from [] (suc i) n leaf h l = refl
  in_members_from (m ∷ ms) (suc i) n leaf h l =
      let sum = added_is (cells m.ty) (members_cells cells (take i ms)) n h in
      let past : nat_lt leaf sum.0 ≡ false = not_below leaf sum.0 (omega (arith, sum.4)) in
      let left : leaf - sum.0 - sum.1 ≡ leaf - n = omega (arith, sum.4) in
      rw (sum.2, past) (in_members_from ms i sum.1 (leaf - sum.0) sum.3 (omega (arith, sum.4)) ∙ ap (place_in_members cells place (drop i ms)) left)

  -- where no leaf of the members begins behind the member, or it is the last one, a leaf behind it is in none
  pub in_members_none : (ms : List Member) (i n left k : ℕ) (d : Member) → i < length ms → members_cells cells (take i ms) ≡ Some n → n + left < 67108864 → option_map saturated (cells (get_or ms i d).ty) ≡ Some k → k ≤ left
      → (i + 1 < length ms → BeginsBy cells ms (i + 1) (n + left) → ⊥) → place_in_members cells place (drop i ms) left ≡ None
  in_members_none ms i n left k d l h near is past last =
      in_members_later cells place ms i left k d l (omega arith) is past ∙ elim (cases_lt (i + 1) (length ms)) [
        | inl less ↦ absurd (last less (next (cells (get_or ms i d).ty) refl))
        | inr done ↦ rw (drop_of_length-le ms done) (in_members_end cells place (left - k))
      ]
    where
      next : (o : Option ℕ) → cells (get_or ms i d).ty ≡ o → BeginsBy cells ms (i + 1) (n + left)
      next None e = let bad : option_map saturated None ≡ Some k = ap (option_map saturated) (sym e) ∙ is in cc
      next (Some c) e =
          let cuts : option_map saturated (Some c) ≡ Some k = ap (option_map saturated) (sym e) ∙ is in
          let at : saturated c ≡ k = cc in
          let sum : members_cells cells (take (i + 1) ms) ≡ Some (n + c) = members_cells_more cells ms i d l ∙ rw (h, e) refl in
          rw sum (omega arith)

  -- the place of a leaf, where a member begins before it and the next one does not
  pub in_member : (ms : List Member) (i first leaf : ℕ) (d : Member) (here : Option ℕ) → leaf < 67108864 → i < length ms → BeginsBy cells ms i leaf → Some first ≡ option_map saturated (members_cells cells (take i ms))
      → here ≡ option_map saturated (place_in_member place (get_or ms i d) (leaf - first))
      → (option_map saturated (cells (get_or ms i d).ty) ≡ None) ⊎ ((k : ℕ) × (option_map saturated (cells (get_or ms i d).ty) ≡ Some k) × (leaf - first < k)) → here ≡ option_map saturated (place_in_members cells place ms leaf)
  in_member ms i first leaf d here near l begins is e cases =
      let b = some_with (members_cells cells (take i ms)) (λ n. n ≤ leaf) begins in
      let cuts : Some first ≡ Some (saturated b.0) = is ∙ ap (option_map saturated) b.1 in
      let at : first ≡ saturated b.0 = cc in
      let same : leaf - first ≡ leaf - b.0 = omega (arith, b.2) in
      e ∙ ap (option_map saturated) (sym (
      in_members_from ms i b.0 leaf b.1 b.2 ∙ ap (place_in_members cells place (drop i ms)) (sym same) ∙ elim cases [
        | inl none ↦ in_members_any cells place ms i (leaf - first) d l none
        | inr some ↦ in_members_here cells place ms i (leaf - first) some.0 d l some.1 some.2
      ]
      ))

  pub in_no_member : (ms : List Member) (i first leaf k : ℕ) (d : Member) → leaf < 67108864 → i < length ms → BeginsBy cells ms i leaf → Some first ≡ option_map saturated (members_cells cells (take i ms))
      → option_map saturated (cells (get_or ms i d).ty) ≡ Some k → k ≤ leaf - first → (i + 1 < length ms → BeginsBy cells ms (i + 1) leaf → ⊥) → place_in_members cells place ms leaf ≡ None
  in_no_member ms i first leaf k d near l begins is size past last =
      let b = some_with (members_cells cells (take i ms)) (λ n. n ≤ leaf) begins in
      let cuts : Some first ≡ Some (saturated b.0) = is ∙ ap (option_map saturated) b.1 in
      let at : first ≡ saturated b.0 = cc in
      let same : leaf - first ≡ leaf - b.0 = omega (arith, b.2) in
      let whole : b.0 + (leaf - first) ≡ leaf = omega (arith, b.2) in
      in_members_from ms i b.0 leaf b.1 b.2 ∙ ap (place_in_members cells place (drop i ms)) (sym same)
      ∙ in_members_none ms i b.0 (leaf - first) k d l b.1 (omega (arith, b.2)) size past (λ more begin. last more (rw whole at begin))

  pub in_empty : (ms : List Member) (leaf : ℕ) → length ms ≡ 0 → None ≡ option_map saturated (place_in_members cells place ms leaf)
  in_empty [] leaf h = ap (option_map saturated) (sym (in_members_end cells place leaf))
  in_empty (m ∷ ms) leaf h = absurd (omega arith)
