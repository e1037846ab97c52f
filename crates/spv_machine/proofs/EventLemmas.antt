-- What a step does is an event of its invocation that isn't idle.
use Rattle.std.proofs.Common.{◌≡◌, ℕ, Bool, true, false, cond, Option, Some, None, Result, Ok, Err, refl}
use Rattle.std.specs.Prelude.{slice_get}
use Rattle.spv_base.specs.declared.happenings.Happening.{Happening}
use Rattle.spv_base.specs.declared.happenings.Kind.TheVariants.{Write, Arrive, Opened}
use Rattle.spv_base.specs.declared.instructions.Inst.{Inst}
use Rattle.spv_base.specs.declared.values.Pointer.{Pointer}
use Rattle.spv_base.specs.declared.values.Root.{Root}
use Rattle.spv_base.specs.declared.values.Root.TheVariants.{Shared, Private, Local}
use Rattle.spv_base.specs.declared.values.Value.{Value}
use Rattle.spv_index.specs.Definitions.{at}
use Rattle.spv_valid.specs.Acceptance.{Accepted}
use Rattle.spv_frame.specs.Frames.{Held as Frame}
use Rattle.spv_statuses.specs.declared.invocations.Status.{Status}
use Rattle.spv_statuses.specs.declared.invocations.Status.TheVariants.{Ready, Arrived, Passed, Finished}
use Rattle.spv_sites.specs.Effects.{Control, Effect, Next, Jump, Enter, Leave, Wait}
use Rattle.spv_sites.specs.Instructions.{effect_of}
use Rattle.spv_sites.specs.declared.causes.Cause.{Cause}
use Rattle.spv_state.specs.Program.{Program}
use Rattle.spv_state.specs.State.{State, top_of}
use Rattle.spv_machine.specs.Kinds.{is_idle}
use Rattle.spv_machine.specs.Step.{Outcome, Moves, arrived, at_frame, at_inst, by_control, by_status, happening_of, is_written, opens, outcome, past_frame, plain, step_of, stored_at, written}

-- an event of an invocation that isn't idle
pub record IsMove (i : ℕ) (h : Happening) : Type 0 where
  pub inv : h.inv ≡ i
  pub moves : is_idle h.kind ≡ false

either_moves : (b : Bool) (i : ℕ) (h k : Happening) → IsMove i h → IsMove i k → IsMove i (cond b h k)
either_moves true i h k e f = e
either_moves false i h k e f = f

written_moves : (a : Accepted) (i word : ℕ) (r : Root) → IsMove i (written a i word r)
written_moves a i word (Shared id) =
    either_moves (is_written a id) i (record { inv = i; kind = Write; word = word; root = id; line = 0 }) (plain i word) (record { inv = refl; moves = refl }) (record { inv = refl; moves = refl })
written_moves a i word (Private id) = record { inv = refl; moves = refl }
written_moves a i word (Local depth id) = record { inv = refl; moves = refl }

stored_moves : (a : Accepted) (i word : ℕ) (e : Option (Pointer × Value)) → IsMove i (stored_at a i word e)
stored_moves a i word None = record { inv = refl; moves = refl }
stored_moves a i word (Some e) = written_moves a i word e.0.root

arrival_kind : (b : Bool) → is_idle (cond b Opened Arrive) ≡ false
arrival_kind true = refl
arrival_kind false = refl

control_moves : (p : Program) (i word : ℕ) (s : State) (h : Happening) (k : Control) → IsMove i h → IsMove i (by_control p i word s h k)
control_moves p i word s h Next is = is
control_moves p i word s h (Jump block phis) is = record { inv = refl; moves = refl }
control_moves p i word s h (Enter frame es) is = record { inv = refl; moves = refl }
control_moves p i word s h (Leave v) is = record { inv = refl; moves = refl }
control_moves p i word s h Wait is = record { inv = refl; moves = arrival_kind (opens p word (arrived i word s)) }

pub happening_moves : (p : Program) (s : State) (i word : ℕ) (e : Effect) → IsMove i (happening_of p s i word e)
happening_moves p s i word e = control_moves p i word s (stored_at p.accepted i word e.store) e.control (stored_moves p.accepted i word e.store)

-- the event of an effect is one of the invocation that does it
pub happening_inv : (p : Program) (s : State) (i word : ℕ) (e : Effect) → (happening_of p s i word e).inv ≡ i
happening_inv p s i word e = (happening_moves p s i word e).inv

-- ---- what a step does

-- where it does something
abbrev pub IsMoved : ℕ → Outcome → Type 0
IsMoved i (Moves h t) = IsMove i h
IsMoved i _ = Unit {0}

outcome_moves : (p : Program) (s : State) (i : ℕ) (d : Inst) (r : Result Effect Cause) → IsMoved i (outcome p s i d r)
outcome_moves p s i d (Ok e) = happening_moves p s i d.word e
outcome_moves p s i d (Err cause) = tt

inst_moves : (p : Program) (s : State) (i : ℕ) (f : Frame) (d : Option Inst) → IsMoved i (at_inst p s i f d)
inst_moves p s i f None = tt
inst_moves p s i f (Some d) = outcome_moves p s i d (effect_of p s i f d)

frame_moves : (p : Program) (s : State) (i : ℕ) (f : Option Frame) → IsMoved i (at_frame p s i f)
frame_moves p s i None = tt
frame_moves p s i (Some f) = inst_moves p s i f (at p.accepted.insts f.pc)

past_moves : (p : Program) (s : State) (i : ℕ) (f : Option Frame) → IsMoved i (past_frame p s i f)
past_moves p s i None = tt
past_moves p s i (Some f) = record { inv = refl; moves = refl }

status_moves : (p : Program) (s : State) (i : ℕ) (status : Option Status) → IsMoved i (by_status p s i status)
status_moves p s i (Some Ready) = frame_moves p s i (top_of s i)
status_moves p s i (Some Passed) = past_moves p s i (top_of s i)
status_moves p s i (Some (Arrived word)) = tt
status_moves p s i (Some Finished) = tt
status_moves p s i None = tt

pub step_moves : (p : Program) (s : State) (i : ℕ) → IsMoved i (step_of p s i)
unfolding step_of
step_moves p s i = status_moves p s i (slice_get s.statuses.list i)
