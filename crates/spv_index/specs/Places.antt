-- Items by their keys, of which the first under a key counts.
use Rattle.std.specs.Prelude.{ℕ, suc, List, [], ◌∷◌, map}

-- each key with the number of its item, where the first has number n
abbrev pub places_from : ℕ → List ℕ → List (ℕ × ℕ)
places_from n [] = []
places_from n (key ∷ keys) = (key, n) ∷ places_from (suc n) keys

-- the keys of entries
abbrev pub keys_of : {T : Type 0} → List (ℕ × T) → List ℕ
keys_of entries = map (λ e. e.0) entries
