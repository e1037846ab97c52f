-- The frames of a sound state, at any depth.
use Rattle.std.proofs.Common.{◌≡◌, ℕ, [], Option, Some, None, refl, arith, slice_get}
use Rattle.std.specs.Option.{option_map_or}
use Rattle.std.proofs.lemmas.Option.{slice_get_within}
use Rattle.spv_base.proofs.Exports.{element_at}
use Rattle.spv_frame.specs.Frames.{Held as Frame}
use Rattle.spv_frame.specs.Stacks.{Stacked}
use Rattle.spv_state.specs.Program.{Program}
use Rattle.spv_state.specs.Sound.{IsSound, IsSoundFrame}
use Rattle.spv_state.specs.State.{State, frames_of}

-- the stack of an invocation that has a frame at a depth
stack_of : (o : Option Stacked) (depth : ℕ) (f : Frame) → slice_get (option_map_or (λ (k : Stacked). k.frames) o []) depth ≡ Some f → (k : Stacked) × (o ≡ Some k) × (slice_get k.frames depth ≡ Some f)
stack_of None depth f h = cc
stack_of (Some k) depth f h = (k, refl, h)

pub frame_sound : (p : Program) (s : State) (i depth : ℕ) (f : Frame) → IsSound p s → slice_get (frames_of s i) depth ≡ Some f → IsSoundFrame p.accepted f
frame_sound p s i depth f sound at =
    let stack = stack_of (slice_get s.stacks i) depth f at in
    let within = slice_get_within s.stacks i stack.0 stack.1 in
    let statuses = sound.stacks in
    let levels = sound.levels in
    let status = element_at s.statuses.list i (omega arith) in
    let level = element_at s.memory.locals i (omega arith) in
    (sound.each i status.0 stack.0 level.0 status.1 stack.1 level.1).frames depth f stack.2
