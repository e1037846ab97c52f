use Rattle.spv_line.specs.Words.{words_in}
use Rattle.spv_cmd.specs.Grammar.{IsNumber, IsStretch}
use Rattle.spv_cmd.proofs.ReadsLemmas.{reads_through}
use Rattle.spv_cmd.proofs.RowLemmas.{no_stretch}
use Rattle.spv_cmd.proofs.arguments.stretch.Goals as goal

pub returns-in_err-end : goal.returns-in_err-end
returns-in_err-end c =
    let text = c.args.arguments.now in
    let rest = c.in-Some.rest.now in
    reads_through (IsNumber (words_in rest)) (IsStretch (words_in text)) c.in_err-end.field-0.0 c.from_residual.result c.from_residual.ensures.1
    (no_stretch (words_in text) (words_in rest) c.in-Some.word.now (rw c.in-Some.is at c.next_word.ensures).words) c.in_err-end.ensures
