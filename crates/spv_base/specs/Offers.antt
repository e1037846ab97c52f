-- How pieces of output are offered, by the pieces that a sink was offered call by call.
use Rattle.std.specs.Prelude.{◌≡◌, ℕ, ◌<◌, ◌≤◌, List, [], ◌∷◌, ◌++◌, length, drop, Result, MatchResult}

-- A piece is offered whole, and again what the sink didn't take of it, to its end. An empty piece isn't offered.
abbrev pub IsOffered : List ℕ → List (List ℕ) → Type 0
IsOffered piece [] = piece ≡ []
IsOffered piece (offer ∷ offers) = (offer ≡ piece) × ((taken : ℕ) × (0 < taken) × (taken ≤ length piece) × IsOffered (drop taken piece) offers)

-- pieces are offered in turn, each to its end
abbrev pub AreOffered : List (List ℕ) → List (List ℕ) → Type 0
AreOffered [] offers = offers ≡ []
AreOffered (piece ∷ pieces) offers = (first rest : List (List ℕ)) × (offers ≡ first ++ rest) × IsOffered piece first × AreOffered pieces rest

-- these are the first offers of some, or all
abbrev pub Begin : (List (List ℕ) → Type 0) → List (List ℕ) → Type 0
Begin Offered offers = (later : List (List ℕ)) × Offered (offers ++ later)

-- a call that writes a piece offers it to its end, and less only where it fails
abbrev pub Offers : {T E : Type 0} → List ℕ → List (List ℕ) → List (List ℕ) → Result T E → Type 0
Offers piece before now result =
    (offers : List (List ℕ)) × (now ≡ before ++ offers) × MatchResult result (λ _. IsOffered piece offers) (λ _. Begin (IsOffered piece) offers)
