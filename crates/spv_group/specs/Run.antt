-- A run by the entries of a schedule, each the invocation that an event is of: the states at its positions, always from the start, and
-- where and why it ends.
use Rattle.std.specs.Prelude.{ℕ, zero, suc, ◌-◌, Bool, if◌then◌else◌, List, length, Option, Some, None, is_some, slice_get, option_map}
use Rattle.std.specs.List.{filter_map, range_with_len}
use Rattle.spv_base.specs.declared.happenings.Happening.{Happening}
use Rattle.spv_base.specs.declared.happenings.EndCause.{EndCause}
use Rattle.spv_base.specs.declared.happenings.EndCause.TheVariants as end
use Rattle.spv_state.specs.Program.{Program}
use Rattle.spv_state.specs.State.{State}
use Rattle.spv_state.specs.Start.{start_of}
pub use Rattle.spv_machine.specs.Kinds.{is_idle}
use Rattle.spv_machine.specs.Step.{Outcome, Idles, Moves, Faults, idle, step_of, fault_in}
use Rattle.spv_statuses.specs.Group as statuses
use Rattle.spv_group.specs.Positions.{least_of}

-- ---- states

-- the state after an event; an idle one and a fault change nothing
abbrev pub state_after : Outcome → State → State
state_after Idles s = s
state_after (Moves h t) s = t
state_after (Faults f) s = s

abbrev pub event : Program → Option ℕ → State → State
event p None s = s
event p (Some i) s = state_after (step_of p s i) s

-- the state at a position
abbrev pub run : Program → List ℕ → ℕ → State
run p entries zero = start_of p
run p entries (suc n) = event p (slice_get entries n) (run p entries n)

-- ---- what happens

abbrev pub happening_in : Outcome → ℕ → Happening
happening_in Idles i = idle i
happening_in (Moves h t) i = h
happening_in (Faults f) i = idle i

-- the event at a position, where the schedule has an entry there
abbrev pub happening_at : Program → List ℕ → ℕ → Option Happening
happening_at p entries n = option_map (λ i. happening_in (step_of p (run p entries n) i) i) (slice_get entries n)

-- the event before a position
abbrev pub happening_before : Program → List ℕ → ℕ → Option Happening
happening_before p entries zero = None
happening_before p entries (suc n) = happening_at p entries n

-- what happened from position k on to position n, in the order of the events
unfoldable pub happenings_between : Program → List ℕ → (k n : ℕ) → List Happening
happenings_between p entries k n = filter_map (happening_at p entries) (range_with_len k (n - k))

-- ---- the end

abbrev pub all_finished : State → Bool
all_finished s = statuses.all_finished s.statuses.list

-- no invocation is ready or passed, and one has arrived at a barrier
abbrev pub is_stuck : State → Bool
is_stuck s = statuses.is_stuck s.statuses.list

-- what the next entry has for a cause: its event faults, or there is none
abbrev pub next_cause : Program → State → Option ℕ → Option EndCause
next_cause p s None = Some end.Schedule
next_cause p s (Some i) = option_map (λ f. end.Fault f) (fault_in (step_of p s i))

-- why a run ends at a position: the first cause that holds there, in the order all finished, stuck, fault, schedule ended
abbrev pub cause_in : Program → State → Option ℕ → Option EndCause
cause_in p s next = if all_finished s then Some end.Finished else if is_stuck s then Some end.Stuck else next_cause p s next

abbrev pub cause_at : Program → List ℕ → ℕ → Option EndCause
cause_at p entries n = cause_in p (run p entries n) (slice_get entries n)

abbrev pub has_cause : Program → List ℕ → ℕ → Bool
has_cause p entries n = is_some (cause_at p entries n)

-- the end is the least position with a cause; at the schedule's length there is one
abbrev pub end_of : Program → List ℕ → ℕ
end_of p entries = least_of (has_cause p entries) 0 (length entries)
