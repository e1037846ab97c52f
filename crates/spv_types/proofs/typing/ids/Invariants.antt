use Rattle.std.proofs.Common.{◌≡◌, drop}
use Rattle.spv_types.specs.Typing.{ids_in}
use Rattle.spv_types.proofs.TypingLemmas.{behind}
use Rattle.spv_types.proofs.typing.ids.Given as goal

-- the ids so far, and those of the rest
abbrev pub invariant-loop-operand : goal.invariant-loop-operand
invariant-loop-operand l = ids_in l.operands ≡ behind l.ids (ids_in (drop l.operand-index l.operands))
