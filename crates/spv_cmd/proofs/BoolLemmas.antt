-- Tests of bytes, and of all bytes of a text.
use Rattle.std.proofs.Common.{◌≡◌, ℕ, Bool, true, false, not, ◌||◌, List, [], ◌∷◌, refl}
use Rattle.std.proofs.lemmas.Bool.{and_parts, and_from}
use Rattle.std.specs.List.{list_all}

pub neither : (a b : Bool) → not a ≡ true → not b ≡ true → not (a || b) ≡ true
neither true b p q = absurd (cc)
neither false b p q = q

-- where one test passes another does
pub all_also : (p q : ℕ → Bool) → ((b : ℕ) → p b ≡ true → q b ≡ true) → (bs : List ℕ) → list_all p bs ≡ true → list_all q bs ≡ true
all_also p q also [] h = refl
all_also p q also (b ∷ bs) h = let both = and_parts (p b) (list_all p bs) h in and_from (q b) (list_all q bs) (also b both.0) (all_also p q also bs both.1)
