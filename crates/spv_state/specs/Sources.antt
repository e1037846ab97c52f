-- Where what instructions read lies in the frames of a function: values of one cell, and whole variables.
use Rattle.std.specs.Prelude.{◌≡◌, ℕ, Some}
use Rattle.spv_frame.specs.Registers.{IsSlotOf}
use Rattle.spv_frame.specs.declared.slots.Slot.{Slot}
use Rattle.spv_operands.specs.Values.{module_root}
use Rattle.spv_plans.specs.Plans.{plan_of}
use Rattle.spv_plans.specs.Registered.{MeansRegister}
use Rattle.spv_valid.specs.Acceptance.{Accepted}
use Rattle.spv_valid.specs.Meanings.{meaning_of}
use Rattle.spv_valid.specs.declared.meanings.Meaning.TheVariants as meaning
use Rattle.spv_state.specs.declared.predecoded.CellSlot.{CellSlot}
use Rattle.spv_state.specs.declared.predecoded.Source.{Source}
use Rattle.spv_state.specs.declared.predecoded.Source.TheVariants.{Register, Constant}
use Rattle.spv_state.specs.declared.predecoded.VariableName.{VariableName}
use Rattle.spv_state.specs.declared.predecoded.VariableName.TheVariants.{Module, Local}

-- ---- values

-- the slot of one cell
abbrev pub slot_of : CellSlot → Slot
slot_of s = record { id = s.id; number = s.number; start = s.start; len = 1 }

-- the id that stands for it
abbrev pub id_of : Source → ℕ
id_of (Register slot) = slot.id
id_of (Constant id) = id

-- A register of a value of the function, or a constant.
abbrev pub IsSource : Accepted → ℕ → Source → Type 0
IsSource a function (Register slot) = IsSlotOf (plan_of a function).values (slot_of slot) × MeansRegister a slot.id function
IsSource a function (Constant id) = meaning_of a.insts id ≡ Some meaning.Constant

-- ---- variables

-- the id that stands for it
abbrev pub name_of : VariableName → ℕ
name_of (Module id root) = id
name_of (Local id) = id

-- A variable outside functions, with its root, or one of the function.
abbrev pub IsName : Accepted → ℕ → VariableName → Type 0
IsName a function (Module id root) = (meaning_of a.insts id ≡ Some meaning.ModuleVariable) × (root ≡ module_root a.insts id)
IsName a function (Local id) = meaning_of a.insts id ≡ Some (meaning.Variable function)
