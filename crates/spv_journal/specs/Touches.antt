-- What an event did, as its changes tell it: whether variables were stored to, how many debug events were passed, and whether a frame came or went.
use Rattle.std.specs.Prelude.{◌≡◌, ◌≢◌, ◌<◌, ℕ, ◌+◌, ◌-◌, false, List, length, take, Some, slice_get}
use Rattle.std.specs.Option.{IsSomeAnd}
use Rattle.spv_base.specs.declared.values.PassedEvent.{PassedEvent}
use Rattle.spv_frame.specs.Frames.{Held as Frame}
use Rattle.spv_state.specs.State.{State, depth_of, frames_of, top_of}
use Rattle.spv_undo.specs.Undo.{CanUndoAll, undo_all}
use Rattle.spv_undo.specs.declared.entries.Entry.{Entry}
use Rattle.spv_journal.specs.declared.touches.FrameChange.{FrameChange}
use Rattle.spv_journal.specs.declared.touches.FrameChange.TheVariants.{Same, Pushed, Popped}
use Rattle.spv_journal.specs.declared.touches.Touch.{Touch}

-- a list but for its last elements, so many; nothing where there are fewer
abbrev pub but_last : {A : Type 0} → ℕ → List A → List A
but_last n xs = take (length xs - n) xs

-- a frame is one of a function, and has passed these debug events
pub record HasPassed (id : ℕ) (passed : List PassedEvent) (f : Frame) : Type 0 where
  pub function : f.plan.function ≡ id
  pub events : f.events ≡ passed

-- how many frames there were before
abbrev pub count_before : FrameChange → ℕ → ℕ
count_before Same n = n
count_before Pushed n = n - 1
count_before Popped n = n + 1

-- What an event of an invocation did that led from a state s to a state u. Where no frame came or went, the memory is the same unless it
-- was stored to. Of the frames of the invocation those that aren't the top one have passed what they had before, and the top one so many
-- debug events more, unless it came.
pub record IsTouch (t : Touch) (i : ℕ) (s u : State) : Type 0 where
  pub memory : t.stores ≡ false → t.frames ≡ Same → s.memory ≡ u.memory
  pub stacks : length s.stacks ≡ length u.stacks
  pub others : (k : ℕ) → k ≢ i → frames_of s k ≡ frames_of u k
  pub count : length (frames_of s i) ≡ count_before t.frames (length (frames_of u i))
  pub below : (d : ℕ) (g : Frame) → d + 1 < length (frames_of u i) → slice_get (frames_of u i) d ≡ Some g → IsSomeAnd (slice_get (frames_of s i) d) (HasPassed g.plan.function g.events)
  pub top : (g : Frame) → t.frames ≢ Pushed → top_of u i ≡ Some g → IsSomeAnd (slice_get (frames_of s i) (depth_of u i)) (HasPassed g.plan.function (but_last t.events g.events))

-- what changes did, the newest first, wherever they can be undone
abbrev pub IsTouchOf : List Entry → Touch → Type 0
IsTouchOf es t = (i : ℕ) (u : State) → CanUndoAll i es u → IsTouch t i (undo_all i es u) u
