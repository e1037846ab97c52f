-- What the stacks of a workgroup keep by themselves. No definition of a step speaks of it.
use Rattle.std.specs.Prelude.{◌≡◌, ◌≢◌, ◌<◌, ◌≤◌, ◌^◌, ℕ, List, [], Some, length, slice_get}
use Rattle.spv_frame.specs.Stacks.{Stacked}
use Rattle.spv_mem.specs.Memory.{Levels}
use Rattle.spv_state.specs.State.{State}

-- a stack has no more frames than there is room for, and their depths are numbers of 32 bits
pub record IsBounded (k : Stacked) : Type 0 where
  pub within : length k.frames ≤ k.room
  pub narrow : k.room < 2 ^ 32

abbrev pub AreBounded : List Stacked → Type 0
AreBounded ks = (i : ℕ) (k : Stacked) → slice_get ks i ≡ Some k → IsBounded k

-- the variables of the top frame of an invocation are there, and no more than there is room for
abbrev pub HasLocals : State → ℕ → Type 0
HasLocals s i = (l : Levels) → slice_get s.memory.locals i ≡ Some l → (l.list ≢ []) × (length l.list ≤ l.room)
