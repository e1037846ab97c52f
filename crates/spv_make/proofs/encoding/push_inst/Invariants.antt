use Rattle.std.proofs.Common.{◌≡◌, ◌++◌, take}
use Rattle.spv_make.proofs.encoding.push_inst.Given as goal

abbrev pub invariant-loop-word : goal.invariant-loop-word
invariant-loop-word l = l.words ≡ l.initial.words ++ take l.word-index l.word-items
