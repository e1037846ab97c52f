-- Kits: a place for each probe that was handed in, numbered from 1. The place of one that was dropped is empty. A probe is seen through
-- its tally and its test.
use Rattle.std.specs.Prelude.{◌≡◌, ℕ, ◌-◌, ◌^◌, ◌<◌, ◌==◌, Bool, IsTrue, List, get_or, map, option_map, Option, Some, None, IfSome, All, count_by, if◌then◌else◌}
use Rattle.std.specs.List.{AllZip}
use Rattle.spv_base.specs.declared.happenings.Happening.{Happening}
use Rattle.spv_base.specs.Counting.{Counts, Uncounts}

-- what the place with this number has
abbrev pub place : {P : Type 0} → List (Option P) → ℕ → Option P
place xs k = if k == 0 then None else get_or xs (k - 1) None

-- two places are empty, or what they have is related
abbrev pub Alike : {A B : Type 0} → (A → B → Type 0) → Option A → Option B → Type 0
Alike R (Some a) (Some b) = R a b
Alike R (Some a) None = ⊥
Alike R None (Some b) = ⊥
Alike R None None = Unit {0}

-- the test of each probe, at its number; none where it was dropped
abbrev pub tests_of : {P : Type 0} → (P → Happening → Bool) → List (Option P) → List (Option (Happening → Bool))
tests_of test boxes = map (option_map test) boxes

-- each count is below the greatest u64
abbrev pub AllBelow : {P : Type 0} → (P → ℕ) → List (Option P) → Type 0
AllBelow tally boxes = All (λ x. IfSome x (λ p. tally p < 2 ^ 64 - 1)) boxes

module _ {P : Type 0} (tally : P → ℕ) (test : P → Happening → Bool) where
  -- the count of each probe that hits the event isn't 0
  abbrev pub AllAbove : Happening → List (Option P) → Type 0
  AllAbove h boxes = All (λ x. IfSome x (λ p. IsTrue (test p h) → 0 < tally p)) boxes

  -- each probe that is there counts the event
  abbrev pub AllCount : Happening → List (Option P) → List (Option P) → Type 0
  AllCount h old new = AllZip (Alike (Counts tally test h)) old new

  -- each probe that is there takes the event back
  abbrev pub AllUncount : Happening → List (Option P) → List (Option P) → Type 0
  AllUncount h old new = AllZip (Alike (Uncounts tally test h)) old new

  -- a probe with this test, whose count is how many of these events it hits
  pub record HasCounted (events : List Happening) (hit : Happening → Bool) (p : P) : Type 0 where
    pub tally_is : tally p ≡ count_by hit events
    pub test_is : (h : Happening) → test p h ≡ hit h

  -- the place of each test has a probe with it that counted these events, and the other places are empty
  abbrev pub Follows : List (Option (Happening → Bool)) → List Happening → List (Option P) → Type 0
  Follows tests events boxes = AllZip (Alike (HasCounted events)) tests boxes
