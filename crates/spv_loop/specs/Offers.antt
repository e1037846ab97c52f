-- What was offered of several pieces, by all offers before and after it.
use Rattle.std.specs.Prelude.{◌≡◌, List, ℕ, ◌++◌}
use Rattle.spv_base.specs.Offers.{AreOffered, Begin}

-- the pieces were offered in turn, each to its end
abbrev pub OffersAll : List (List ℕ) → List (List ℕ) → List (List ℕ) → Type 0
OffersAll pieces before now = (offers : List (List ℕ)) × (now ≡ before ++ offers) × AreOffered pieces offers

-- they were, or the first of them
abbrev pub OffersFirst : List (List ℕ) → List (List ℕ) → List (List ℕ) → Type 0
OffersFirst pieces before now = (offers : List (List ℕ)) × (now ≡ before ++ offers) × Begin (AreOffered pieces) offers
