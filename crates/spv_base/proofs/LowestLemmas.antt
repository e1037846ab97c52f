-- The lower of more than two words, and the lowest of joined lists of words.
use Rattle.std.proofs.Common.{◌≡◌, ℕ, List, [], ◌∷◌, ◌++◌, Option, Some, None, min, refl, ap, arith}
use Rattle.spv_base.specs.Lowest.{lower, lowest}

pub lower_none : (a : Option ℕ) → lower a None ≡ a
lower_none None = refl
lower_none (Some x) = refl

pub lower_assoc : (a b c : Option ℕ) → lower (lower a b) c ≡ lower a (lower b c)
lower_assoc None b c = refl
lower_assoc (Some x) None c = refl
lower_assoc (Some x) (Some y) None = refl
lower_assoc (Some x) (Some y) (Some z) = let e : min (min x y) z ≡ min x (min y z) = omega arith in ap Some e

pub lowest-append : (xs ys : List ℕ) → lowest (xs ++ ys) ≡ lower (lowest xs) (lowest ys)
lowest-append [] ys = refl
lowest-append (x ∷ xs) ys = rw (lowest-append xs ys, lower_assoc (Some x) (lowest xs) (lowest ys)) refl
