-- Phis (SPIR-V 1.6 section 3.42.17, OpPhi): registers that take values all at once.
use Rattle.std.specs.Prelude.{◌≡◌, ℕ, List, Option, Some, length, map}
use Rattle.spv_base.specs.declared.values.Value.{Value as Whole}
use Rattle.spv_types.specs.Rows.{leaves}
use Rattle.spv_frame.specs.declared.contents.Source.{Source}
use Rattle.spv_frame.specs.declared.contents.Source.TheVariants.{Register, Value}
use Rattle.spv_frame.specs.declared.slots.Slot.{Slot}
use Rattle.spv_frame.specs.Contents.{held, with_contents}
use Rattle.spv_frame.specs.Frames.{Held}
use Rattle.spv_frame.specs.Registers.{IsSlotOf, Rooms}

-- what a source gives in a frame
abbrev pub given : Held → Source → Option Whole
given f (Register s) = held f s.now
given f (Value v) = Some v

-- a source may name a register of the frame
abbrev pub IsSource : Rooms → Source → Type 0
IsSource rs (Register s) = IsSlotOf rs s.now
IsSource rs (Value v) = Unit {0}

-- how many cells it gives
abbrev pub cells_from : Source → ℕ
cells_from (Register s) = s.now.len
cells_from (Value v) = length (leaves v)

-- a register, and a source of as many cells
abbrev pub IsPhi : Rooms → Slot → Source → Type 0
IsPhi rs s x = IsSlotOf rs s × IsSource rs x × (cells_from x ≡ s.len)

-- the frame with what each source gave in it, in the register of its phi
abbrev pub with_phis : List Slot → List Source → Held → Held
with_phis ss xs f = with_contents ss (map (given f) xs) f
