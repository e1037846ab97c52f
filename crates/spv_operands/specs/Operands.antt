-- What an operand stands for that was found.
use Rattle.std.specs.Prelude.{◌≡◌, ℕ, false, if◌then◌else◌, Option, Some, None}
use Rattle.std.specs.Option.{is_some}
use Rattle.spv_base.specs.Entries.{reads}
use Rattle.spv_base.specs.declared.values.Pointer.{Pointer as Place}
use Rattle.spv_base.specs.declared.values.Value.{Value as Whole, Ptr, out-Value}
use Rattle.spv_types.specs.Shapes.{pointer_in}
use Rattle.spv_frame.specs.Frames.{Held}
use Rattle.spv_frame.specs.Registers.{ids, number_of}
use Rattle.spv_operands.specs.Values.{pointer_to}
use Rattle.spv_operands.specs.declared.operands.Operand.{Operand}
use Rattle.spv_operands.specs.declared.operands.Operand.TheVariants.{Value, Undefined, Variable, Pointer}
use Rattle.spv_operands.specs.declared.operands.Reference.{Reference}
use Rattle.spv_operands.specs.declared.operands.Reference.TheVariants.{Lent, Made}

-- the value, or the pointer, that an operand stands for
abbrev pub shown : Operand → Whole
shown (Value v) = v
shown (Undefined b) = b.value
shown (Variable r) = pointer_to r
shown (Pointer p) = Ptr p.now

-- the pointer that is lent or was made
abbrev pub referred : Reference → Place
referred (Lent p) = p.now
referred (Made p) = p

-- ---- pointers and other values

-- the pointer that a value is, and a value that is none
abbrev pub pointer_of : Whole → Option Place
pointer_of v = pointer_in (out-Value v)

abbrev pub data_of : Whole → Option Whole
data_of v = if is_some (pointer_of v) then None else Some v

-- a lent value is no pointer
abbrev pub IsPlain : Operand → Type 0
IsPlain (Value v) = is_some (pointer_of v) ≡ false
IsPlain (Undefined b) = is_some (pointer_of b.value) ≡ false
IsPlain (Variable r) = Unit {0}
IsPlain (Pointer p) = Unit {0}

-- what a register of a frame holds
abbrev pub IsHeld : Held → ℕ → Operand → Type 0
IsHeld f id (Value v) = (number : ℕ) × (number_of id (ids f.plan.values) ≡ Some number) × (reads id f.values ≡ Some (Some v))
IsHeld f id (Undefined b) = ⊥
IsHeld f id (Variable r) = ⊥
IsHeld f id (Pointer p) = reads id f.pointers ≡ Some (Some p.now)
