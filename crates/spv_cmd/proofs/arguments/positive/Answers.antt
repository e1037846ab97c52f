use Rattle.spv_line.specs.Words.{words_in}
use Rattle.spv_cmd.specs.Grammar.{IsNumber, IsPositive}
use Rattle.spv_cmd.proofs.ReadsLemmas.{reads_through}
use Rattle.spv_cmd.proofs.arguments.positive.Goals as goal

pub returns-in_err-number : goal.returns-in_err-number
returns-in_err-number c =
    let text = c.args.arguments.now in
    reads_through (IsNumber (words_in text)) (IsPositive (words_in text)) c.in_err-number.field-0.0 c.from_residual.result c.from_residual.ensures.1 (λ lacks n h. lacks n h.1) c.in_err-number.ensures
