use Rattle.spv_cmd.specs.declared.command.Command.TheVariants.{Halt}
use Rattle.spv_line.specs.Words.{words_in}
use Rattle.spv_cmd.specs.Grammar.{IsPositive, Means}
use Rattle.spv_cmd.specs.Grammar.Arguments.{numbers}
use Rattle.spv_cmd.proofs.ReadsLemmas.{reads_through}
use Rattle.spv_cmd.proofs.RowLemmas.{no_numbers}
use Rattle.spv_cmd.proofs.arguments.halt.Goals as goal

pub returns-in_err-n : goal.returns-in_err-n
returns-in_err-n c =
    let text = c.args.arguments.now in
    let rest = c.in-Some.rest.now in
    reads_through (IsPositive (words_in rest)) (Means (numbers Halt) (words_in text)) c.in_err-n.field-0.0 c.from_residual.result c.from_residual.ensures.1
    (no_numbers Halt (words_in text) (words_in rest) c.in-Some.word.now (rw c.in-Some.is at c.next_word.ensures).words) c.in_err-n.ensures
