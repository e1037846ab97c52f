use Rattle.std.proofs.Common.{◌∙◌, arith, drop, ap, sym}
use Rattle.spv_words.proofs.CutLaws.{raw_of-joined, cut-refused_off, cut-only, Fit32-drop}
use Rattle.spv_words.specs.Cuts.{cut, raw_of}
use Rattle.spv_words.proofs.cuts.instructions_are_cut.Goals as goal

pub returns-clause-joined : goal.returns-clause-joined
returns-clause-joined c = raw_of-joined

pub returns-clause-only : goal.returns-clause-only
unfolding raw_of
returns-clause-only c = λ words insts are. ap (cut 5 0) (sym are.joined) ∙ cut-only 5 insts are.stand

pub returns-clause-refused : goal.returns-clause-refused
unfolding raw_of
returns-clause-refused c = λ words refusal fits is. cut-refused_off 5 0 (drop 5 words) refusal (omega arith) (Fit32-drop 5 words fits) is
