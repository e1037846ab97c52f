-- Where the register with an id lies among those of a function, if there is one.
use Rattle.std.specs.Prelude.{◌≡◌, ℕ, Bool, List, Option, Some, None, length}
use Rattle.spv_base.specs.declared.values.Pointer.{Pointer}
use Rattle.spv_base.specs.declared.values.Value.{Value}
use Rattle.spv_frame.specs.Calls.{id_at}
use Rattle.spv_frame.specs.Frames.{Held as Frame}
use Rattle.spv_frame.specs.Numbers.{HasCells, HasPointer, HoldsPointer, HoldsValue}
use Rattle.spv_frame.specs.Registers.{IsPointerSlotOf, IsSlotOf, Rooms, ids, marked, number_of}
use Rattle.spv_frame.specs.declared.slots.PointerSlot.{PointerSlot}
use Rattle.spv_frame.specs.declared.slots.Slot.{Slot}
use Rattle.spv_types.specs.Rows.{leaves}

abbrev pub HasSlot : Rooms → ℕ → Option Slot → Type 0
HasSlot rs id None = number_of id (ids rs) ≡ None
HasSlot rs id (Some s) = IsSlotOf rs s × (s.id ≡ id)

abbrev pub HasPointerSlot : List ℕ → ℕ → Option PointerSlot → Type 0
HasPointerSlot ks id None = number_of id ks ≡ None
HasPointerSlot ks id (Some s) = IsPointerSlotOf ks s × (s.id ≡ id)

-- The register with an id in a frame has a number and as many cells as a value v. It held a value r of as many, or none, as a mark says.
pub record IsExchanged (id n : ℕ) (v r : Value) (has : Bool) (f : Frame) : Type 0 where
  pub named : id_at (ids f.plan.values) n ≡ id
  pub cells : HasCells n (length (leaves v)) f
  pub holds : HoldsValue n (marked r has) f
  pub long : length (leaves r) ≡ length (leaves v)

-- The register of a pointer with an id in a frame has a number, and holds a pointer or none.
pub record IsHeldPointer (id : ℕ) (f : Frame) (n : ℕ) (o : Option Pointer) : Type 0 where
  pub named : id_at f.plan.pointers n ≡ id
  pub there : HasPointer n f
  pub holds : HoldsPointer n o f
