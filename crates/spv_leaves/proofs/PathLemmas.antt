-- The path to a leaf is that of its form, and the rows and members that it lies in.
use Rattle.std.proofs.Common.{◌≡◌, ◌∙◌, ℕ, ◌+◌, ◌-◌, ◌/◌, ◌%◌, ◌^◌, ◌<◌, ◌≤◌, List, [], ◌∷◌, ◌++◌, length, true, false, Option, Some, None, inl, inr, zero, suc, Result, Ok, Err, OnOk, append_assoc, refl, sym, ap, drop, drop_of_length-le, get_or, arith}
use Rattle.std.specs.Option.{option_map, option_map_or}
use Rattle.std.specs.Prelude.{nat_lt}
use Rattle.std.proofs.Math.Nat.{div-eq_of_lt, mod-eq_of_lt}
use Rattle.std.proofs.lemmas.Bool.{cases_lt, lt-ltb}
use Rattle.spv_types.specs.declared.forms.Member.{Member}
use Rattle.spv_types.specs.declared.forms.Form.{Form}
use Rattle.spv_types.specs.Types.{Types, found_among, in_first}
use Rattle.spv_base.specs.Saturation.{saturated}
use Rattle.spv_base.proofs.Exports.{not_below}
use Rattle.spv_types.proofs.Exports.{in_first-is}
use Rattle.spv_leaves.specs.Paths.{element_path, row_path, members_path, path_among, path_by, path_step}

-- the path in a type that is found, or none
abbrev pub found_path : Types → Option (ℕ × Form) → ℕ → List ℕ
found_path ts None leaf = []
found_path ts (Some f) leaf = path_step ts (path_among ts f.0) f.1 leaf

pub path_among_is : (ts : Types) (n id leaf : ℕ) → path_among ts n id leaf ≡ found_path ts (found_among ts n id) leaf
unfolding path_among
path_among_is ts n id leaf = ap (λ (f : ℕ → List ℕ). f leaf) (in_first-is {A = ℕ → List ℕ} (λ leaf. []) (path_step ts) ts n id) ∙ found (found_among ts n id)
  where
    found : (o : Option (ℕ × Form)) → option_map_or {U = ℕ → List ℕ} (λ (f : ℕ × Form). path_step ts (in_first (λ leaf. []) (path_step ts) ts f.0) f.1) o (λ leaf. []) leaf ≡ found_path ts o leaf
    found None = refl
    found (Some f) = refl

-- a path of which the first index is there, and then the others
pub pushed_all : {E : Type 0} (r : Result (Unit {0}) E) (old now new part all : List ℕ) (k : ℕ) → now ≡ old ++ k ∷ [] → OnOk r (new ≡ now ++ part) → all ≡ k ∷ part → OnOk r (new ≡ old ++ all)
pushed_all (Ok x) old now new part all k first h same = h ∙ ap (λ p. p ++ part) first ∙ append_assoc old (k ∷ []) part ∙ ap (λ p. old ++ p) (sym same)
pushed_all (Err e) old now new part all k first h same = tt

-- ---- elements

div_saturated : (leaf w : ℕ) → leaf < 4294967296 → leaf / saturated w ≡ leaf / w
div_saturated leaf w l = elim (cases_lt w (2 ^ 64)) [
  | inl less ↦ let e : saturated w ≡ w = omega arith in rw e refl
  | inr more ↦ let e : saturated w ≡ 18446744073709551615 = omega arith in rw (e, div-eq_of_lt {n = leaf} {m = 18446744073709551615} (omega arith), div-eq_of_lt {n = leaf} {m = w} (omega arith)) refl
]

rem_saturated : (leaf w : ℕ) → leaf < 4294967296 → leaf % saturated w ≡ leaf % w
rem_saturated leaf w l = elim (cases_lt w (2 ^ 64)) [
  | inl less ↦ let e : saturated w ≡ w = omega arith in rw e refl
  | inr more ↦ let e : saturated w ≡ 18446744073709551615 = omega arith in rw (e, mod-eq_of_lt {n = leaf} {m = 18446744073709551615} (omega arith), mod-eq_of_lt {n = leaf} {m = w} (omega arith)) refl
]

module _ (cells : ℕ → Option ℕ) (path : ℕ → ℕ → List ℕ) where
  pub no_element : (element leaf : ℕ) → option_map saturated (cells element) ≡ None → element_path cells path element leaf ≡ []
  no_element element leaf h = by (cells element) h
    where
      by : (o : Option ℕ) → option_map saturated o ≡ None → option_map_or (row_path (path element) leaf) o [] ≡ []
      by None h = refl
      by (Some n) h = cc

  pub empty_element : (element leaf : ℕ) → option_map saturated (cells element) ≡ Some 0 → element_path cells path element leaf ≡ []
  empty_element element leaf h = by (cells element) h
    where
      by : (o : Option ℕ) → option_map saturated o ≡ Some 0 → option_map_or (row_path (path element) leaf) o [] ≡ []
      by None h = refl
      by (Some n) h = let e : saturated n ≡ 0 = cc in let z : n ≡ 0 = omega arith in rw z refl

  pub some_element : (element leaf w : ℕ) → leaf < 4294967296 → option_map saturated (cells element) ≡ Some w → 0 < w → element_path cells path element leaf ≡ leaf / w ∷ path element (leaf % w)
  some_element element leaf w l h some = by (cells element) h
    where
      by : (o : Option ℕ) → option_map saturated o ≡ Some w → option_map_or (row_path (path element) leaf) o [] ≡ leaf / w ∷ path element (leaf % w)
      by None h = cc
      by (Some n) h =
          let e : saturated n ≡ w = cc in
          let t : nat_lt 0 n ≡ true = lt-ltb 0 n (omega arith) in
          let d = div_saturated leaf n l in
          let r = rem_saturated leaf n l in
          rw (t, sym e, d, r) refl

  -- ---- members

  here : (o : Option ℕ) (left : ℕ) (x : List ℕ) (f : ℕ → List ℕ) → option_map saturated o ≡ None → path_by left x f o ≡ x
  here None left x f h = refl
  here (Some n) left x f h = cc

  inside : (o : Option ℕ) (left k : ℕ) (x : List ℕ) (f : ℕ → List ℕ) → option_map saturated o ≡ Some k → left < k → path_by left x f o ≡ x
  inside None left k x f h l = cc
  inside (Some n) left k x f h l = let e : saturated n ≡ k = cc in let t : nat_lt left n ≡ true = lt-ltb left n (omega arith) in rw t refl

  later : (o : Option ℕ) (left k : ℕ) (x : List ℕ) (f : ℕ → List ℕ) → left < 4294967296 → option_map saturated o ≡ Some k → k ≤ left → path_by left x f o ≡ f (left - k)
  later None left k x f b h l = cc
  later (Some n) left k x f b h l = let e : saturated n ≡ k = cc in let s : n ≡ k = omega arith in let t : nat_lt left n ≡ false = not_below left n (omega arith) in rw (t, s) refl

  pub no_members : (k leaf : ℕ) → members_path cells path k [] leaf ≡ []
  unfolding members_path
  no_members k leaf = refl

  member_last : (k left : ℕ) (m : Member) (ms : List Member) → option_map saturated (cells m.ty) ≡ None → members_path cells path k (m ∷ ms) left ≡ k ∷ path m.ty left
  unfolding members_path
  member_last k left m ms h = here (cells m.ty) left _ (members_path cells path (k + 1) ms) h

  member_here : (k left n : ℕ) (m : Member) (ms : List Member) → option_map saturated (cells m.ty) ≡ Some n → left < n → members_path cells path k (m ∷ ms) left ≡ k ∷ path m.ty left
  unfolding members_path
  member_here k left n m ms h l = inside (cells m.ty) left n _ (members_path cells path (k + 1) ms) h l

  member_behind : (k left n : ℕ) (m : Member) (ms : List Member) → left < 4294967296 → option_map saturated (cells m.ty) ≡ Some n → n ≤ left → members_path cells path k (m ∷ ms) left ≡ members_path cells path (k + 1) ms (left - n)
  unfolding members_path
  member_behind k left n m ms b h l = later (cells m.ty) left n _ (members_path cells path (k + 1) ms) b h l

  -- the same of the members from one on

  pub path_end : (ms : List Member) (k j left : ℕ) → length ms ≤ k → members_path cells path j (drop k ms) left ≡ []
  path_end ms k j left h = rw (drop_of_length-le ms h) (no_members j left)

  pub path_last : (ms : List Member) (k j left : ℕ) (d : Member) → k < length ms → option_map saturated (cells (get_or ms k d).ty) ≡ None → members_path cells path j (drop k ms) left ≡ j ∷ path (get_or ms k d).ty left
  path_last [] k j left d l h = absurd (omega arith)
  path_last (m ∷ ms) zero j left d l h = member_last j left m ms h
  path_last (m ∷ ms) (suc k) j left d l h = path_last ms k j left d (omega arith) h

  pub path_here : (ms : List Member) (k j left n : ℕ) (d : Member) → k < length ms → option_map saturated (cells (get_or ms k d).ty) ≡ Some n → left < n → members_path cells path j (drop k ms) left ≡ j ∷ path (get_or ms k d).ty left
  path_here [] k j left n d l h b = absurd (omega arith)
  path_here (m ∷ ms) zero j left n d l h b = member_here j left n m ms h b
  path_here (m ∷ ms) (suc k) j left n d l h b = path_here ms k j left n d (omega arith) h b

  pub path_behind : (ms : List Member) (k j left n : ℕ) (d : Member) → k < length ms → left < 4294967296 → option_map saturated (cells (get_or ms k d).ty) ≡ Some n → n ≤ left → members_path cells path j (drop k ms) left ≡ members_path cells path (j + 1) (drop (k + 1) ms) (left - n)
  path_behind [] k j left n d l b h o = absurd (omega arith)
  path_behind (m ∷ ms) zero j left n d l b h o = member_behind j left n m ms b h o
  path_behind (m ∷ ms) (suc k) j left n d l b h o = let e : suc k + 1 ≡ suc (k + 1) = omega arith in rw e (path_behind ms k j left n d (omega arith) b h o)
