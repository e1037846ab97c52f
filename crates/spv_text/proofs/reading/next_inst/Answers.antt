use Rattle.spv_text.proofs.InstLemmas.{handed_on}
use Rattle.spv_text.proofs.ReadingLemmas.{line_wrong}
use Rattle.spv_text.proofs.reading.next_inst.Goals as goal

pub returns-in-Err-clause-err : goal.returns-in-Err-clause-err
returns-in-Err-clause-err c wrong e =
    line_wrong wrong c.args.word c.args.text.now c.in-Some.rest.now c.in-Some.line (rw c.in-Some.is at c.in_ok-line.ensures) (c.in-Err.ensures.err wrong (handed_on _ _ _ _ e))
