-- Pairs of numbers that an order finds equal.
use Rattle.std.proofs.Common.{◌≡◌, ◌+◌, ◌&&◌, ◌||◌, ◌∙◌, ℕ, Bool, true, false, cond, List, ◌∷◌, add_comm, zero-add, sym, ⊎_elim, Option, Some, eqb, refl, ap}
use Rattle.std.specs.Option.{unwrap_or}
use Rattle.std.specs.List.{count_by}
use Rattle.std.specs.Ordering.{nat_cmp, ordering_then, is_eq}
use Rattle.std.proofs.lemmas.Bool.{cases_eq, eq-eqb, ne_eqb}
use Rattle.std.proofs.lemmas.List.Sums.{sum_by-cons}
use Rattle.spv_base.proofs.Exports.{is_eq-nat_cmp, is_eq-pair}

-- one more pair in a set
pub pair_step : (new old : Bool) (a b t s : ℕ) → new ≡ cond (is_eq (ordering_then (nat_cmp a t) (nat_cmp b s))) true old
    → new ≡ ((eqb a t && eqb b s) || old)
pair_step new old a b t s is =
    let test : new ≡ cond (eqb a t && eqb b s) true old = rw is_eq-pair at is in
    test ∙ elim (eqb a t && eqb b s) as (λ x. cond x true old ≡ (x || old)) [ true ↦ refl | false ↦ refl ]

-- one more edge is counted
pub count_step : (edges : List (ℕ × ℕ)) (t s q n : ℕ) (old new : Option ℕ)
    → new ≡ cond (is_eq (nat_cmp t q)) (Some (n + 1)) old
    → unwrap_or old 0 ≡ count_by (λ e. eqb e.0 q) edges → n ≡ count_by (λ e. eqb e.0 t) edges
    → unwrap_or new 0 ≡ count_by (λ e. eqb e.0 q) ((t, s) ∷ edges)
count_step edges t s q n old new is before here =
    let f : ℕ × ℕ → ℕ = λ e. cond (eqb e.0 q) 1 0 in
    let more : count_by (λ e. eqb e.0 q) ((t, s) ∷ edges) ≡ cond (eqb t q) 1 0 + count_by (λ e. eqb e.0 q) edges = sum_by-cons f (t, s) edges in
    let test : new ≡ cond (eqb t q) (Some (n + 1)) old = rw is_eq-nat_cmp at is in
    ⊎_elim
    (λ e.
    let yes : eqb t q ≡ true = eq-eqb t q e in
    let n_is : n ≡ count_by (λ x. eqb x.0 q) edges = here ∙ ap (λ (z : ℕ). count_by (λ (x : ℕ × ℕ). eqb x.0 z) edges) e in
    let new_is : new ≡ Some (n + 1) = test ∙ rw yes refl in
    rw (more, yes, new_is, n_is) (add_comm _ 1))
    (λ ne.
    let no : eqb t q ≡ false = ne_eqb t q ne in
    let new_is : new ≡ old = test ∙ rw no refl in
    rw (more, no, new_is) (before ∙ sym (zero-add _)))
    (cases_eq t q)
