-- The registers of a frame by their numbers in its plan.
use Rattle.std.specs.Prelude.{◌≡◌, ◌<◌, ℕ, Option, Some, length, slice_get}
use Rattle.spv_base.specs.Entries.{reads}
use Rattle.spv_base.specs.declared.values.Pointer.{Pointer}
use Rattle.spv_base.specs.declared.values.Value.{Value}
use Rattle.spv_frame.specs.Calls.{id_at}
use Rattle.spv_frame.specs.Frames.{Held, with_pointer_under, with_value_under}
use Rattle.spv_frame.specs.Registers.{ids, sizes}

-- ---- registers of values

-- the register with a number has so many cells
abbrev pub HasCells : ℕ → ℕ → Held → Type 0
HasCells n cells f = slice_get (sizes f.plan.values) n ≡ Some cells

-- the register with a number holds a value or none
abbrev pub with_value : ℕ → Option Value → Held → Held
with_value n o f = with_value_under (id_at (ids f.plan.values) n) o f

abbrev pub HoldsValue : ℕ → Option Value → Held → Type 0
HoldsValue n o f = reads (id_at (ids f.plan.values) n) f.values ≡ Some o

-- ---- registers of pointers

abbrev pub HasPointer : ℕ → Held → Type 0
HasPointer n f = n < length f.plan.pointers

abbrev pub with_pointer : ℕ → Option Pointer → Held → Held
with_pointer n o f = with_pointer_under (id_at f.plan.pointers n) o f

abbrev pub HoldsPointer : ℕ → Option Pointer → Held → Type 0
HoldsPointer n o f = reads (id_at f.plan.pointers n) f.pointers ≡ Some o
