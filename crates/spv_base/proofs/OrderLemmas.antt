-- Numbers and pairs that an order finds equal.
use Rattle.std.proofs.Common.{◌≡◌, ◌&&◌, ◌∙◌, ℕ, eqb, refl, arith, Ordering, Less, Equal, Greater}
use Rattle.std.proofs.lemmas.Grind.{common_steps}
use Rattle.std.specs.Ordering.{nat_cmp, ordering_then, is_eq}

pub is_eq-then : (o p : Ordering) → is_eq (ordering_then o p) ≡ (is_eq o && is_eq p)
is_eq-then Less p = refl
is_eq-then Equal p = refl
is_eq-then Greater p = refl

pub is_eq-nat_cmp : (x y : ℕ) → is_eq (nat_cmp x y) ≡ eqb x y
is_eq-nat_cmp x y = grind (arith, common_steps)

pub is_eq-pair : (a b t s : ℕ) → is_eq (ordering_then (nat_cmp a t) (nat_cmp b s)) ≡ (eqb a t && eqb b s)
is_eq-pair a b t s = is_eq-then (nat_cmp a t) (nat_cmp b s) ∙ rw (is_eq-nat_cmp a t, is_eq-nat_cmp b s) refl
