use Rattle.std.proofs.Common.{◌≡◌, ◌≤◌, drop}
use Rattle.spv_sections.specs.Ids.{operands_name}
use Rattle.spv_sections.proofs.ids.operands_name.Given as goal

-- no operand so far is of something else
abbrev pub invariant-loop-operand : goal.invariant-loop-operand
invariant-loop-operand l = record {
  few : l.number ≤ l.operand-index;
  names : operands_name l.index l.scope l.uses l.number (drop l.operand-index l.operands) ≡ operands_name l.index l.scope l.uses 0 l.operands;
}
