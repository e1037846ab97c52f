-- What is known of an instruction of a function where it is reached: its operands have values of their types.
use Rattle.std.specs.Prelude.{◌≡◌, ℕ, Some}
use Rattle.spv_base.specs.declared.instructions.Inst.{Inst}
use Rattle.spv_base.specs.declared.values.Value.{Value}
use Rattle.spv_types.specs.Rows.{no_roots}
use Rattle.spv_types.specs.Shapes.{HasShape}
use Rattle.spv_valid.specs.Below.spv_bodies.specs.Context.{Known, known_of, type_at}
use Rattle.spv_valid.specs.Acceptance.{Accepted}

-- what the rules of bodies ask about
abbrev pub known : Accepted → Known
known a = known_of a.types a.constants a.insts

-- a value of the type of the operand with a number
abbrev pub IsOperand : Accepted → Inst → ℕ → Value → Type 0
IsOperand a i n v = (ty : ℕ) → type_at (known a) i n ≡ Some ty → HasShape a.types no_roots ty v

-- a value of the type of the result
abbrev pub IsResult : Accepted → Inst → Value → Type 0
IsResult a i v = HasShape a.types no_roots i.ty v
