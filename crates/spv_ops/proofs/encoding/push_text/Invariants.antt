use Rattle.std.proofs.Common.{◌≡◌, ◌++◌, length}
use Rattle.spv_ops.specs.Strings.{words_of_text}
use Rattle.spv_ops.proofs.encoding.push_text.Given as goal

abbrev pub invariant-loop-rest : goal.invariant-loop-rest
invariant-loop-rest l = l.words ++ words_of_text l.rest ≡ l.fn.words ++ words_of_text l.fn.bytes

abbrev pub decreases-loop-rest : goal.decreases-loop-rest
decreases-loop-rest l = length l.rest
