use Rattle.std.proofs.Common.{◌≡◌, drop}
use Rattle.spv_types.specs.Typing.{members_from}
use Rattle.spv_types.proofs.TypingLemmas.{behind}
use Rattle.spv_types.proofs.typing.members.Given as goal

-- the members so far, and those that the rest makes
abbrev pub invariant-loop-n : goal.invariant-loop-n
invariant-loop-n l = members_from l.index.insts l.id 0 l.operands ≡ behind l.members (members_from l.index.insts l.id l.n (drop l.n l.operands))
