-- What is there where a frame is left.
use Rattle.std.proofs.Common.{◌≡◌, ◌≢◌, ℕ, ◌≤◌, List, [], ◌∷◌, Option, Some, IsSome, length, refl, sym, ap, subst, arith}
use Rattle.spv_base.specs.declared.instructions.Inst.{Inst}
use Rattle.spv_base.specs.Variables.{Roots}
use Rattle.spv_actions.specs.Below.spv_mem.specs.Memory.{Levels}
use Rattle.spv_frame.specs.Frames.{Held as Frame}
use Rattle.spv_frame.specs.Stacks.{top}
use Rattle.spv_state.specs.Rooms.{HasLocals}
use Rattle.spv_state.specs.Program.{Program}
use Rattle.spv_state.specs.Sound.{HasVariables}
use Rattle.spv_state.specs.State.{State, top_of}
use Rattle.spv_machine.specs.Reached.{IsReached}
use Rattle.spv_machine.proofs.Depths.{frames_within}
use Rattle.spv_machine.proofs.ReturnLemmas.{own_stack}
use Rattle.spv_machine.proofs.ReachedLemmas.{Facts}
use Rattle.std.proofs.lemmas.Slice.Zip.{AllZip-long}

some_frames : (fs : List Frame) (f : Frame) → top fs ≡ Some f → 1 ≤ length fs
some_frames [] f h = absurd (cc)
some_frames (x ∷ xs) f h = omega arith

pub reached_some : (p : Program) (s : State) (i : ℕ) (d : Inst) → IsReached p s i d → IsSome (top_of s i)
reached_some p s i d r = subst (λ (o : Option Frame). IsSome o) (sym r.top) refl

-- its variables are there, and not more than there is room for
pub leave_locals : (p : Program) → Facts p.accepted → (s : State) (i : ℕ) (d : Inst) → IsReached p s i d → HasLocals s i
leave_locals p known s i d r l at =
    let own = own_stack p known s i d r in
    let same : own.2 ≡ l = let one = own.3 in cc in
    let as_many = AllZip-long (HasVariables p.accepted) own.0.frames own.2.list own.4.variables in
    let some = some_frames own.0.frames r.frame own.5 in
    let within = frames_within p.accepted own.0.frames known.accepted known.valid own.4.frames own.4.calls own.4.first in
    let levels = own.4.levels in
    let there : own.2.list ≢ [] = λ none. let count = ap (λ (xs : List Roots). length xs) none in absurd (omega (arith, count, some, as_many)) in
    subst (λ (x : Levels). (x.list ≢ []) × (length x.list ≤ x.room)) same (there, omega (arith, within, as_many, levels))
