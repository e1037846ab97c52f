use Rattle.std.proofs.Common.{◌≡◌, ◌+◌, drop}
use Rattle.spv_session.specs.Info.{module_words, words_of}
use Rattle.spv_session.proofs.info.module_words.Given as goal

abbrev pub invariant-loop-inst : goal.invariant-loop-inst
invariant-loop-inst l = l.words + words_of (drop l.inst-index l.insts) ≡ module_words l.insts
