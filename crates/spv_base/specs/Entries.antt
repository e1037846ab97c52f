-- Maps with a fixed set of ids, as the list of their entries in the order of the module.
--     reads k es       the value under k
--     writes k v es    the entries with v under k; the same entries where k has no place
--     change i f xs    the list with f done to its element i
use Rattle.std.specs.Prelude.{ℕ, zero, suc, List, [], ◌∷◌, Option, Some, None, if◌then◌else◌, ◌==◌}

abbrev pub reads : {X : Type 0} → ℕ → List (ℕ × X) → Option X
reads k [] = None
reads k (e ∷ es) = if e.0 == k then Some e.1 else reads k es

abbrev pub writes : {X : Type 0} → ℕ → X → List (ℕ × X) → List (ℕ × X)
writes k v [] = []
writes k v (e ∷ es) = if e.0 == k then (e.0, v) ∷ es else e ∷ writes k v es

abbrev pub change : {A : Type 0} → ℕ → (A → A) → List A → List A
change i f [] = []
change zero f (x ∷ xs) = f x ∷ xs
change (suc i) f (x ∷ xs) = x ∷ change i f xs
