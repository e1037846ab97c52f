-- The events before a position of a run, and how many of them a journal keeps.
use Rattle.std.specs.Prelude.{ℕ, zero, suc, ◌-◌, ◌≤◌, nat_le, List, [], ◌∷◌, slice_index, ⊤}
use Rattle.std.specs.List.{range_with_len, sum_by}
use Rattle.spv_journal.specs.Events.{Event, size_of}
use Rattle.spv_journal.specs.Undo.{Moment}
use Rattle.spv_state.specs.Program.{Program}
use Rattle.spv_machine.specs.Step.{step_of}
use Rattle.spv_machine.specs.Weights.{weight_of}
use Rattle.spv_group.specs.Positions.{least_of}
use Rattle.spv_group.specs.Run.{run, happening_in}

-- ---- what undoing leads to

-- an event of a run, by its number, and the state before it
abbrev pub moment_at : Program → List ℕ → ℕ → Moment
moment_at p entries n = record { happening = happening_in (step_of p (run p entries n) (slice_index entries n)) (slice_index entries n); state = run p entries n }

-- all events before a position, the newest first
abbrev pub moments_below : Program → List ℕ → ℕ → List Moment
moments_below p entries zero = []
moments_below p entries (suc n) = moment_at p entries n ∷ moments_below p entries n

-- ---- how far back a journal reaches

-- the most marks and entries that an event of a run takes, by its number
abbrev pub weight : Program → List ℕ → ℕ → ℕ
weight p entries n = weight_of p (run p entries n) (slice_index entries n)

-- the weights of the events from position k on to position n, added up
unfoldable pub weight_between : Program → List ℕ → (k n : ℕ) → ℕ
weight_between p entries k n = sum_by (weight p entries) (range_with_len k (n - k))

-- The least position from which on a journal with this limit keeps all events before position n, whatever it kept before: the events
-- from there on fit.
unfoldable pub window : (limit : ℕ) → Program → List ℕ → ℕ → ℕ
window limit p entries n = least_of (λ k. nat_le (weight_between p entries k n) limit) 0 n

-- each of the newest events before position n is no larger than its weight
abbrev pub AreLight : (ℕ → ℕ) → ℕ → List Event → Type 0
AreLight weights n [] = ⊤
AreLight weights n (v ∷ vs) = (size_of v ≤ weights (n - 1)) × AreLight weights (n - 1) vs
