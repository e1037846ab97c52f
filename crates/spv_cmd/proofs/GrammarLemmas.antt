-- Refusals of arguments are refusals of the words.
use Rattle.std.proofs.Common.{◌≡◌, ◌≢◌, ℕ, List, [], ◌∷◌, sym, subst}
use Rattle.spv_cmd.specs.Grammar.{IsOne}

-- no word, or more than one
pub not_one : (P : List ℕ → Type 0) (words : List (List ℕ)) → ((word : List ℕ) → words ≢ word ∷ []) → ¬ IsOne P words
not_one P words many h = many h.0 h.1

-- one word, and it isn't so
pub not_so : (P : List ℕ → Type 0) (words : List (List ℕ)) (word : List ℕ) → words ≡ word ∷ [] → ¬ P word → ¬ IsOne P words
not_so P words word e lacks h =
    let same : word ≡ h.0 = cc in
    lacks (subst P (sym same) h.2)
