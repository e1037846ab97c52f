-- The top frame of an invocation in a sound state.
use Rattle.std.proofs.Common.{◌≡◌, ℕ, ◌-◌, [], Option, Some, None, length, refl, arith, slice_get}
use Rattle.std.specs.Option.{option_map_or}
use Rattle.std.proofs.lemmas.Option.{slice_get_within}
use Rattle.spv_frame.specs.Frames.{Held as Frame}
use Rattle.spv_frame.specs.Stacks.{Stacked, top}
use Rattle.spv_plans.specs.Registered.{IsOfFunction}
use Rattle.spv_valid.specs.Acceptance.{Accepted}
use Rattle.spv_state.specs.Program.{Program}
use Rattle.spv_state.specs.Sound.{IsSound, IsSoundFrame}
use Rattle.spv_state.specs.State.{State, top_of}
use Rattle.spv_state.proofs.ExecutableLemmas.{function_known, standing}
use Rattle.spv_base.proofs.Exports.{element_at}

-- the stack of an invocation that has a top frame
stack_of : (o : Option Stacked) (f : Frame) → top (option_map_or (λ (k : Stacked). k.frames) o []) ≡ Some f → (k : Stacked) × (o ≡ Some k) × (top k.frames ≡ Some f)
stack_of None f h = cc
stack_of (Some k) f h = (k, refl, h)

pub top_sound : (p : Program) (s : State) (i : ℕ) (f : Frame) → IsSound p s → top_of s i ≡ Some f → IsSoundFrame p.accepted f
top_sound p s i f sound at =
    let stack = stack_of (slice_get s.stacks i) f at in
    let within = slice_get_within s.stacks i stack.0 stack.1 in
    let statuses = sound.stacks in
    let levels = sound.levels in
    let status = element_at s.statuses.list i (omega arith) in
    let level = element_at s.memory.locals i (omega arith) in
    (sound.each i status.0 stack.0 level.0 status.1 stack.1 level.1).frames (length stack.0.frames - 1) f stack.2

pub of_function : (a : Accepted) (f : Frame) → IsSoundFrame a f → IsOfFunction a f.plan
of_function a f sound = record { function = function_known a f.plan.function f.pc (standing a f.plan.function f.pc sound.stands); is = sound.plan }
