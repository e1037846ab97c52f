-- Calls that were inlined, from one with a number outward.
use Rattle.std.proofs.Common.{◌≡◌, ◌⊎◌, ◌∙◌, ℕ, suc, ◌+◌, ◌-◌, ◌<◌, ◌≤◌, ◌==◌, Bool, true, false, List, [], ◌∷◌, ◌++◌, length, get_or, slice_get, Option, Some, None, refl, sym, ap, subst, inl, inr, arith}
use Rattle.std.specs.Prelude.{reverse, if◌then◌else◌}
use Rattle.std.proofs.lemmas.Bool.{cases_Bool, eqb-true}
use Rattle.std.proofs.lemmas.Grind.{common_steps}
use Rattle.std.proofs.lemmas.List.{get_or-reverse, length-reverse, reverse-reverse}
use Rattle.spv_base.proofs.Exports.{same_number}
use Rattle.spv_scopes.specs.declared.calls.Linked.{Linked}
use Rattle.spv_scopes.specs.declared.places.Place.{Place}
use Rattle.spv_scopes.specs.Calls.{before, calls_from}

-- no call has a number that is as great as their count
pub none_beyond : (ks : List Linked) (n : ℕ) → length ks ≤ n → calls_from ks (Some n) ≡ []
none_beyond [] n le = refl
none_beyond (k ∷ ks) n le = grind (arith, none_beyond ks n)

pub none_of_none : (ks : List Linked) → calls_from ks None ≡ []
none_of_none [] = refl
none_of_none (k ∷ ks) = none_of_none ks

-- one that is put behind them is passed
pub passed : (k : Linked) (ks : List Linked) (n : ℕ) → n < length ks → calls_from (k ∷ ks) (Some n) ≡ calls_from ks (Some n)
passed k ks n lt = grind (arith, common_steps)

-- the one that was put last
pub newest : (k : Linked) (ks : List Linked) (n : ℕ) → n ≡ length ks → calls_from (k ∷ ks) (Some n) ≡ k.place ∷ calls_from ks k.call
newest k ks n e = let Q : ℕ → Type 0 = λ m. calls_from (k ∷ ks) (Some m) ≡ k.place ∷ calls_from ks k.call in subst Q (sym e) start
  where
    start : calls_from (k ∷ ks) (Some (length ks)) ≡ k.place ∷ calls_from ks k.call
    start =
        let P : Bool → Type 0 = λ b. (if b then k.place ∷ [] else []) ++ calls_from ks (if b then k.call else Some (length ks)) ≡ k.place ∷ calls_from ks k.call in
        subst P (sym (same_number (length ks))) refl

outer : (k : Linked) (ks : List Linked) (n : ℕ) (call : Option ℕ) → n ≤ length ks → calls_from (k ∷ ks) (before n call) ≡ calls_from ks (before n call)
outer k ks n None le = refl
outer k ks n (Some j) le = grind (arith, common_steps, none_of_none ks)

inner : (ks : List Linked) (call : Option ℕ) → calls_from ks (before (length ks) call) ≡ calls_from ks call
inner ks None = refl
inner ks (Some j) = grind (arith, common_steps, none_of_none ks, none_beyond ks j)

-- a call and those around it
pub one_more : (ks : List Linked) (n : ℕ) (x : Linked) → n < length ks → x ≡ get_or ks (length ks - 1 - n) x → calls_from ks (Some n) ≡ x.place ∷ calls_from ks (before n x.call)
one_more [] n x lt is = absurd (omega arith)
one_more (k ∷ ks) n x lt is = by_number (λ below here. one_more ks n x below here) (cases_Bool (n == length ks))
  where
    le_here : length ks ≤ length ks
    le_here = omega arith

    first : n ≡ length ks → x ≡ k → calls_from (k ∷ ks) (Some n) ≡ x.place ∷ calls_from (k ∷ ks) (before n x.call)
    first here e = rw (here, e) (newest k ks (length ks) refl ∙ ap (λ ps. k.place ∷ ps) (sym (outer k ks (length ks) k.call le_here ∙ inner ks k.call)))

    later : n < length ks → calls_from ks (Some n) ≡ x.place ∷ calls_from ks (before n x.call) → calls_from (k ∷ ks) (Some n) ≡ x.place ∷ calls_from (k ∷ ks) (before n x.call)
    later below h = passed k ks n below ∙ h ∙ ap (λ ps. x.place ∷ ps) (sym (outer k ks n x.call (omega arith)))

    at_top : n ≡ length ks → x ≡ k
    at_top here = let z : length (k ∷ ks) - 1 - n ≡ 0 = omega arith in rw z at is

    below_top : n < length ks → x ≡ get_or ks (length ks - 1 - n) x
    below_top below = let z : length (k ∷ ks) - 1 - n ≡ suc (length ks - 1 - n) = omega arith in rw z at is

    by_number : (n < length ks → x ≡ get_or ks (length ks - 1 - n) x → calls_from ks (Some n) ≡ x.place ∷ calls_from ks (before n x.call)) → ((n == length ks) ≡ true) ⊎ ((n == length ks) ≡ false) → calls_from (k ∷ ks) (Some n) ≡ x.place ∷ calls_from (k ∷ ks) (before n x.call)
    by_number again (inl y) = let here : n ≡ length ks = eqb-true n (length ks) y in first here (at_top here)
    by_number again (inr d) = let below : n < length ks = grind arith in later below (again below (below_top below))

-- the same, where they are given in their order
pub unrolled : (calls : List Linked) (n : ℕ) (x : Linked) → n < length calls → x ≡ get_or calls n x → calls_from (reverse calls) (Some n) ≡ x.place ∷ calls_from (reverse calls) (before n x.call)
unrolled calls n x lt is = one_more (reverse calls) n x (rw (length-reverse calls) lt) (is ∙ there)
  where
    there : get_or calls n x ≡ get_or (reverse calls) (length (reverse calls) - 1 - n) x
    there = let e = get_or-reverse (reverse calls) n x (rw (length-reverse calls) lt) in rw (reverse-reverse calls) at e

-- a number that no call has
pub no_call_at : (calls : List Linked) (n : ℕ) → length calls ≤ n → calls_from (reverse calls) (Some n) ≡ []
no_call_at calls n le = none_beyond (reverse calls) n (rw (length-reverse calls) le)

-- ---- the one that is so many outward from another

module _ (calls : List Linked) (all : List Place) (number : Option ℕ) (n : ℕ) (before : (j : ℕ) → slice_get (calls_from calls number) j ≡ slice_get all (n + j)) where
  pub outward_more : (k : Linked) → calls_from calls number ≡ k.place ∷ calls_from calls k.call → (j : ℕ) → slice_get (calls_from calls k.call) j ≡ slice_get all (n + 1 + j)
  outward_more k here j =
      let next : n + suc j ≡ n + 1 + j = omega arith in
      sym (ap (λ l. slice_get l (suc j)) here) ∙ before (suc j) ∙ ap (slice_get all) next

  pub outward_none : (outer : ℕ) → calls_from calls number ≡ [] → n ≤ outer → slice_get all outer ≡ None
  outward_none outer none le =
      let there : n + (outer - n) ≡ outer = omega arith in
      sym (before (outer - n) ∙ ap (slice_get all) there) ∙ ap (λ l. slice_get l (outer - n)) none

  pub outward_is : (outer : ℕ) (k : Linked) → calls_from calls number ≡ k.place ∷ calls_from calls k.call → n ≡ outer → Some k.place ≡ slice_get all outer
  outward_is outer k here at =
      let there : n + 0 ≡ outer = omega arith in
      sym (ap (λ l. slice_get l 0) here) ∙ before 0 ∙ ap (slice_get all) there
