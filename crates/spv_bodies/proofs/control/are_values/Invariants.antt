use Rattle.std.proofs.Common.{◌≡◌, true, drop}
use Rattle.spv_bodies.specs.Control.{are_values}
use Rattle.spv_bodies.proofs.control.are_values.Given as goal

-- the values so far are of the type
abbrev pub invariant-loop-operand : goal.invariant-loop-operand
invariant-loop-operand l = are_values l.context l.ty l.is_value (drop l.operand-index l.operands) ≡ are_values l.context l.ty true l.operands
