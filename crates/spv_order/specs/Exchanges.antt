-- Lists in another order, by exchanges of neighbours.
use Rattle.std.specs.Prelude.{ℕ, zero, suc, List, [], ◌∷◌}

-- the entries at k and k + 1 have changed places; nothing has where the list hasn't both
abbrev pub exchanged_at : {X : Type 0} → ℕ → List X → List X
exchanged_at k [] = []
exchanged_at k (x ∷ []) = x ∷ []
exchanged_at zero (x ∷ y ∷ ys) = y ∷ x ∷ ys
exchanged_at (suc k) (x ∷ y ∷ ys) = x ∷ exchanged_at k (y ∷ ys)

-- and so for each of some places in turn
abbrev pub exchanged : {X : Type 0} → List ℕ → List X → List X
exchanged [] xs = xs
exchanged (k ∷ ks) xs = exchanged ks (exchanged_at k xs)
