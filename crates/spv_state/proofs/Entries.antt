-- Entries that are written: their keys stay, and an id without an entry is not written.
use Rattle.std.proofs.Common.{◌≡◌, ℕ, suc, ◌==◌, Bool, true, false, cond, List, [], ◌∷◌, Option, Some, None, map, refl, ap}
use Rattle.std.specs.Option.{option_map}
use Rattle.spv_base.specs.Entries.{writes}
use Rattle.spv_frame.specs.Registers.{number_of}

pub keys_stay : {X : Type 0} (id : ℕ) (v : X) (es : List (ℕ × X)) → map (λ (e : ℕ × X). e.0) (writes id v es) ≡ map (λ (e : ℕ × X). e.0) es
keys_stay id v [] = refl
keys_stay {X} id v (e ∷ es) = by_key (e.0 == id) (keys_stay id v es)
  where
    by_key : (b : Bool) → map (λ (e : ℕ × X). e.0) (writes id v es) ≡ map (λ (e : ℕ × X). e.0) es
        → map (λ (e : ℕ × X). e.0) (cond b ((e.0, v) ∷ es) (e ∷ writes id v es)) ≡ e.0 ∷ map (λ (e : ℕ × X). e.0) es
    by_key true rest = refl
    by_key false rest = ap (λ (ks : List ℕ). e.0 ∷ ks) rest

-- an id without an entry is not written
pub writes_nothing : {X : Type 0} (id : ℕ) (v : X) (es : List (ℕ × X)) → number_of id (map (λ (e : ℕ × X). e.0) es) ≡ None → writes id v es ≡ es
writes_nothing id v [] h = refl
writes_nothing {X} id v (e ∷ es) h = by_key (e.0 == id) h (writes_nothing id v es)
  where
    later : (o : Option ℕ) → option_map suc o ≡ None → o ≡ None
    later None g = refl
    later (Some n) g = absurd (cc)

    by_key : (b : Bool) → cond b (Some 0) (option_map suc (number_of id (map (λ (e : ℕ × X). e.0) es))) ≡ None
        → (number_of id (map (λ (e : ℕ × X). e.0) es) ≡ None → writes id v es ≡ es) → cond b ((e.0, v) ∷ es) (e ∷ writes id v es) ≡ e ∷ es
    by_key true g rest = absurd (cc)
    by_key false g rest = ap (λ (xs : List (ℕ × X)). e ∷ xs) (rest (later _ g))
