-- Touches that clash: of different invocations, at a common address, one of them a write.
use Rattle.std.specs.Prelude.{◌≡◌, ◌≢◌, ◌+◌, ◌<◌, ◌≤◌, ◌⊎◌, ℕ, true, List, Contains}
use Rattle.spv_order.specs.declared.touches.Touch.{Touch}

abbrev pub Clash : Touch → Touch → ℕ → Type 0
Clash s t a = (s.invocation ≢ t.invocation) × ((s.writes ≡ true) ⊎ (t.writes ≡ true)) × (s.start ≤ a) × (a < s.stop) × (t.start ≤ a) × (a < t.stop)

-- of an event before `below`, or of the event `also`
abbrev pub IsChosen : (below also : ℕ) → Touch → Type 0
IsChosen below also t = (t.event < below) ⊎ (t.event ≡ also)

abbrev pub Clashes : List Touch → (below also : ℕ) → ℕ → Type 0
Clashes touches below also a = (s t : Touch) × Contains touches s × Contains touches t × IsChosen below also s × IsChosen below also t × Clash s t a

abbrev pub IsFree : List Touch → (below also : ℕ) → ℕ → Type 0
IsFree touches below also a = Clashes touches below also a → ⊥

-- y is the first of n events that clashes with an earlier one, x the least of those, and a the first address at which the two do
pub record IsFirstPair (touches : List Touch) (n x y a : ℕ) : Type 0 where
  pub earlier : x < y
  pub within : y < n
  pub none_before : (b : ℕ) → IsFree touches y n b
  pub least : (b : ℕ) → IsFree touches x y b
  pub clash : Clashes touches (x + 1) y a
  pub first : (b : ℕ) → b < a → IsFree touches (x + 1) y b
