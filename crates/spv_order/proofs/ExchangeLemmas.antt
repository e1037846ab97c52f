-- Events that may change places: no two of them conflict in whatever order.
use Rattle.std.proofs.Common.{◌≡◌, ◌≢◌, ◌+◌, ℕ, zero, suc, false, List, [], ◌∷◌, slice_get, Some, inl, inr, refl, sym, ◌∙◌, ap, arith}
use Rattle.std.proofs.lemmas.Bool.{cases_Bool, cases_lt}
use Rattle.spv_order.specs.Exchanges.{exchanged, exchanged_at}
use Rattle.spv_order.specs.Order.{ConflictOn, IsOrder}
use Rattle.spv_order.specs.declared.events.Event.{Event}
use Rattle.spv_order.specs.declared.orders.Answer.TheVariants.{Free}

-- the place from which an exchange took the entry at j
abbrev place_before : {X : Type 0} → ℕ → List X → ℕ → ℕ
place_before k [] j = j
place_before k (x ∷ []) j = j
place_before zero (x ∷ y ∷ ys) zero = 1
place_before zero (x ∷ y ∷ ys) (suc zero) = 0
place_before zero (x ∷ y ∷ ys) (suc (suc j)) = suc (suc j)
place_before (suc k) (x ∷ y ∷ ys) zero = 0
place_before (suc k) (x ∷ y ∷ ys) (suc j) = suc (place_before k (y ∷ ys) j)

stood_at : {X : Type 0} (k : ℕ) (xs : List X) (j : ℕ) → slice_get (exchanged_at k xs) j ≡ slice_get xs (place_before k xs j)
stood_at k [] j = refl
stood_at k (x ∷ []) j = refl
stood_at zero (x ∷ y ∷ ys) zero = refl
stood_at zero (x ∷ y ∷ ys) (suc zero) = refl
stood_at zero (x ∷ y ∷ ys) (suc (suc j)) = refl
stood_at (suc k) (x ∷ y ∷ ys) zero = refl
stood_at (suc k) (x ∷ y ∷ ys) (suc j) = stood_at k (y ∷ ys) j

there_and_back : {X : Type 0} (k : ℕ) (xs : List X) (j : ℕ) → place_before k xs (place_before k xs j) ≡ j
there_and_back k [] j = refl
there_and_back k (x ∷ []) j = refl
there_and_back zero (x ∷ y ∷ ys) zero = refl
there_and_back zero (x ∷ y ∷ ys) (suc zero) = refl
there_and_back zero (x ∷ y ∷ ys) (suc (suc j)) = refl
there_and_back (suc k) (x ∷ y ∷ ys) zero = refl
there_and_back (suc k) (x ∷ y ∷ ys) (suc j) = ap suc (there_and_back k (y ∷ ys) j)

one_place : {X : Type 0} (k : ℕ) (xs : List X) (i j : ℕ) → place_before k xs i ≡ place_before k xs j → i ≡ j
one_place k xs i j same = sym (there_and_back k xs i) ∙ ap (place_before k xs) same ∙ there_and_back k xs j

conflict_turned : (e f : Event) (root leaf : ℕ) → ConflictOn e f root leaf → ConflictOn f e root leaf
conflict_turned e f root leaf c = ((λ same. c.0 (sym same)), c.2, c.1, elim c.3 [ inl w ↦ inr w | inr w ↦ inl w ])

pub free_apart : (events : List Event) (j k root leaf : ℕ) (e f : Event) → IsOrder events Free → j ≢ k → slice_get events j ≡ Some e → slice_get events k ≡ Some f → ConflictOn e f root leaf → ⊥
free_apart events j k root leaf e f free other at_j at_k conflict = elim (cases_lt j k) [
  | inl low ↦ free (k + 1) k (omega arith) (inr (j, root, leaf, low, (e, f, at_j, at_k, conflict)))
  | inr from ↦ elim (cases_lt k j) [
    | inl low ↦ free (j + 1) j (omega arith) (inr (k, root, leaf, low, (f, e, at_k, at_j, conflict_turned e f root leaf conflict)))
    | inr to ↦ absurd (other (omega (arith, from, to)))
  ]
]

pub free_arrives : (events : List Event) (k : ℕ) (e : Event) → IsOrder events Free → slice_get events k ≡ Some e → e.arrives ≡ false
free_arrives events k e free at = elim (cases_Bool e.arrives) [ inl is ↦ absurd (free (k + 1) k (omega arith) (inl (e, at, is))) | inr isnt ↦ isnt ]

free_at : (k : ℕ) (events : List Event) → IsOrder events Free → IsOrder (exchanged_at k events) Free
free_at k events free y z l settled = elim settled [
  | inl arrives ↦
      let j = place_before k events z in
      free (j + 1) j (omega arith) (inl (arrives.0, sym (stood_at k events z) ∙ arrives.1, arrives.2))
  | inr c ↦
      let conflict = c.4 in
      free_apart events (place_before k events c.0) (place_before k events z) c.1 c.2 conflict.0 conflict.1 free
      (λ same. let one = one_place k events c.0 z same in let low = c.3 in absurd (omega (arith, one, low)))
      (sym (stood_at k events c.0) ∙ conflict.2) (sym (stood_at k events z) ∙ conflict.3) conflict.4
]

pub free_exchanged : (events : List Event) (places : List ℕ) → IsOrder events Free → IsOrder (exchanged places events) Free
free_exchanged events [] free = free
free_exchanged events (k ∷ ks) free = free_exchanged (exchanged_at k events) ks (free_at k events free)
