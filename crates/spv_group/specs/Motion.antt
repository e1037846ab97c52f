-- What the motions of a group by one event do.
use Rattle.std.specs.Prelude.{◌≡◌, ℕ, ◌+◌, ◌-◌, ◌<◌, ◌≤◌, List, length, take, Some, None, Result, Ok, Err}
use Rattle.spv_base.specs.declared.causes.NoMemory.{NoMemory}
use Rattle.spv_base.specs.declared.happenings.Happening.{Happening}
use Rattle.spv_setup.specs.Schedule.{Entries}
use Rattle.spv_state.specs.Program.{Program}
use Rattle.spv_state.specs.Start.{start_of}
use Rattle.spv_journal.specs.Events.{size}
use Rattle.spv_journal.specs.Undo.{past}
use Rattle.spv_machine.specs.Step.{Faults, step_of, fault_in}
use Rattle.spv_machine.specs.Weights.{weight_of}
use Rattle.spv_machine.specs.World.{Held as World, IsRecorded}
use Rattle.spv_state.specs.Sound.{IsSound}
use Rattle.spv_machine.specs.declared.execution.StepErr.{StepErr}
use Rattle.spv_machine.specs.declared.execution.StepErr.TheVariants as error
use Rattle.spv_group.specs.declared.motion.Forth.{Forth}
use Rattle.spv_group.specs.declared.motion.Forth.TheVariants as forth
use Rattle.spv_group.specs.declared.motion.Back.{Back}
use Rattle.spv_group.specs.declared.motion.Back.TheVariants as back
use Rattle.spv_group.specs.History.{moments_below, weight, AreLight}
use Rattle.spv_group.specs.Run.{state_after, run, happening_in, happening_at, happening_before, cause_at, end_of}

-- from position n to m: one event on, or at the end the cause of it
abbrev pub Goes : Program → List ℕ → Result Forth NoMemory → (n m : ℕ) → Type 0
Goes p entries (Ok (forth.Went h)) n m = (n < end_of p entries) × (happening_at p entries n ≡ Some h) × (m ≡ n + 1)
Goes p entries (Ok (forth.AtEnd cause)) n m = (n ≡ end_of p entries) × (cause_at p entries n ≡ Some cause) × (m ≡ n)
Goes p entries (Err e) n m = m ≡ n

-- from position n to m: the event before n is taken back, or there is none
abbrev pub Returns : Program → List ℕ → Result Back NoMemory → (n m : ℕ) → Type 0
Returns p entries (Ok (back.Went h)) n m = (happening_before p entries n ≡ Some h) × (n ≡ m + 1)
Returns p entries (Ok back.AtStart) n m = (n ≡ 0) × (m ≡ n)
Returns p entries (Err e) n m = m ≡ n

-- the state at a position is sound, with as many invocations as at the start
pub record IsRight (p : Program) (entries : List ℕ) (n : ℕ) : Type 0 where
  pub sound : IsSound p (run p entries n)
  pub count : length (run p entries n).statuses.list ≡ length (start_of p).statuses.list

-- A world is that of a position of a run, up to its end, by a schedule of as many invocations. Undoing the events that its journal keeps,
-- one after the other, leads to the states before them.
pub record IsRun (p : Program) (schedule : Entries) (limit : ℕ) (w : World) (n : ℕ) : Type 0 where
  pub state : w.state ≡ run p schedule.list n
  pub past : past w.ring w.state ≡ take (length w.ring) (moments_below p schedule.list n)
  pub made : length w.ring ≤ n
  pub within : n ≤ end_of p schedule.list
  pub right : (k : ℕ) → k ≤ n → IsRight p schedule.list k
  pub fits : schedule.invocations ≡ length (start_of p).statuses.list
  -- the journal
  pub light : AreLight (weight p schedule.list) n w.ring
  pub size : size w.ring ≤ limit
  pub room : w.limit ≡ limit
  pub some : 1 ≤ limit

-- the least position to which a world at a position goes back by undoing
abbrev pub kept_in : World → ℕ → ℕ
kept_in w n = n - length w.ring

-- what an event of an invocation left that didn't fault
pub record WasMade (p : Program) (w : World) (i : ℕ) (t : World) (h : Happening) : Type 0 where
  pub state : t.state ≡ state_after (step_of p w.state i) w.state
  pub happening : h ≡ happening_in (step_of p w.state i) i
  pub faultless : fault_in (step_of p w.state i) ≡ None
  pub count : length t.state.statuses.list ≡ length w.state.statuses.list
  pub recorded : IsRecorded h (weight_of p w.state i) w t

-- an event of an invocation, or its fault
abbrev pub Makes : Program → World → ℕ → Result Happening StepErr → World → Type 0
Makes p w i (Ok h) t = WasMade p w i t h
Makes p w i (Err (error.Fault f)) t = (step_of p w.state i ≡ Faults f) × (t ≡ w)
Makes p w i (Err error.NoMemory) t = t ≡ w

-- a run at a position, and the same one at its start, with the least journal, from which it is made again
pub record IsOpened (p : Program) (schedule : Entries) (limit : ℕ) (first : World) (zero : ℕ) (w : World) (n : ℕ) : Type 0 where
  pub now : IsRun p schedule limit w n
  pub begun : IsRun p schedule 1 first zero
  pub start : zero ≡ 0
