-- The types of the operands of an operation, which has at most four.
use Rattle.std.specs.Prelude.{ℕ, zero, suc, Option}
use Rattle.spv_typing.specs.declared.operands.OperandTypes.{OperandTypes}

-- the type of each operand that has one
abbrev pub operand_type : OperandTypes → ℕ → Option ℕ
operand_type tys zero = tys.first
operand_type tys (suc zero) = tys.second
operand_type tys (suc (suc zero)) = tys.third
operand_type tys (suc (suc (suc n))) = tys.fourth

-- the types of the first four operands
abbrev pub types_by : (ℕ → Option ℕ) → OperandTypes
types_by ty = record { first = ty 0; second = ty 1; third = ty 2; fourth = ty 3 }
