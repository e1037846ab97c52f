use Rattle.std.proofs.Common.{◌≡◌, drop}
use Rattle.spv_ops.specs.Steps.{after}
use Rattle.spv_ops.specs.Strings.{text_at}
use Rattle.spv_ops.proofs.reading.text_at.Given as goal

abbrev pub invariant-loop-i : goal.invariant-loop-i
invariant-loop-i l = after l.bytes.items (text_at (drop l.i l.words)) ≡ text_at l.words
