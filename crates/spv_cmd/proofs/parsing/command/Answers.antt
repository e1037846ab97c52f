use Rattle.std.proofs.Common.{ap, subst, sym}
use Rattle.spv_cmd.specs.declared.command.Command.TheVariants as command
use Rattle.spv_line.specs.Words.{words_in}
use Rattle.spv_cmd.specs.Answers.{Reads}
use Rattle.spv_cmd.specs.Grammar.{Means, row}
use Rattle.spv_cmd.proofs.RowLemmas.{number_err, positive_err, count_err, path_err, place_err, stretch_err}
use Rattle.spv_cmd.proofs.parsing.command.Goals as goal

pub returns-in_err-number-in-Goto : goal.returns-in_err-number-in-Goto
returns-in_err-number-in-Goto c = number_err (row c.args.keyword).1 command.Goto (words_in c.args.arguments.now) c.in_err-number-in-Goto.field-0.0 c.from_residual.result (ap (λ k. (row k).1) c.in-Goto.is) c.from_residual.ensures.1 c.in_err-number-in-Goto.ensures

pub returns-in_err-positive-in-Fwd : goal.returns-in_err-positive-in-Fwd
returns-in_err-positive-in-Fwd c = positive_err (row c.args.keyword).1 command.Fwd (words_in c.args.arguments.now) c.in_err-positive-in-Fwd.field-0.0 c.from_residual-in_err-positive-in-Fwd.result (ap (λ k. (row k).1) c.in-Fwd.is) c.from_residual-in_err-positive-in-Fwd.ensures.1 c.in_err-positive-in-Fwd.ensures

pub returns-in_err-positive-in-Back : goal.returns-in_err-positive-in-Back
returns-in_err-positive-in-Back c = positive_err (row c.args.keyword).1 command.Back (words_in c.args.arguments.now) c.in_err-positive-in-Back.field-0.0 c.from_residual-in_err-positive-in-Back.result (ap (λ k. (row k).1) c.in-Back.is) c.from_residual-in_err-positive-in-Back.ensures.1 c.in_err-positive-in-Back.ensures

pub returns-in_err-count-in-Stepi : goal.returns-in_err-count-in-Stepi
returns-in_err-count-in-Stepi c = count_err (row c.args.keyword).1 command.Stepi (words_in c.args.arguments.now) c.in_err-count-in-Stepi.field-0.0 c.from_residual-in_err-count-in-Stepi.result (ap (λ k. (row k).1) c.in-Stepi.is) c.from_residual-in_err-count-in-Stepi.ensures.1 c.in_err-count-in-Stepi.ensures

pub returns-in_err-count-in-Rstepi : goal.returns-in_err-count-in-Rstepi
returns-in_err-count-in-Rstepi c = count_err (row c.args.keyword).1 command.Rstepi (words_in c.args.arguments.now) c.in_err-count-in-Rstepi.field-0.0 c.from_residual-in_err-count-in-Rstepi.result (ap (λ k. (row k).1) c.in-Rstepi.is) c.from_residual-in_err-count-in-Rstepi.ensures.1 c.in_err-count-in-Rstepi.ensures

pub returns-in_err-number-in-Focus : goal.returns-in_err-number-in-Focus
returns-in_err-number-in-Focus c = number_err (row c.args.keyword).1 command.Focus (words_in c.args.arguments.now) c.in_err-number-in-Focus.field-0.0 c.from_residual-in_err-number-in-Focus.result (ap (λ k. (row k).1) c.in-Focus.is) c.from_residual-in_err-number-in-Focus.ensures.1 c.in_err-number-in-Focus.ensures

pub returns-in_err-number-in-Frame : goal.returns-in_err-number-in-Frame
returns-in_err-number-in-Frame c = number_err (row c.args.keyword).1 command.Frame (words_in c.args.arguments.now) c.in_err-number-in-Frame.field-0.0 c.from_residual-in_err-number-in-Frame.result (ap (λ k. (row k).1) c.in-Frame.is) c.from_residual-in_err-number-in-Frame.ensures.1 c.in_err-number-in-Frame.ensures

pub returns-in_err-path-in-Print : goal.returns-in_err-path-in-Print
returns-in_err-path-in-Print c = path_err (row c.args.keyword).1 command.Print (words_in c.args.arguments.now) c.in_err-path-in-Print.field-0.0 c.from_residual-in_err-path-in-Print.result (ap (λ k. (row k).1) c.in-Print.is) c.from_residual-in_err-path-in-Print.ensures.1 c.in_err-path-in-Print.ensures

pub returns-in_err-place-in-Break : goal.returns-in_err-place-in-Break
returns-in_err-place-in-Break c = place_err (row c.args.keyword).1 command.Break (words_in c.args.arguments.now) c.in_err-place-in-Break.field-0.0 c.from_residual-in_err-place-in-Break.result (ap (λ k. (row k).1) c.in-Break.is) c.from_residual-in_err-place-in-Break.ensures.1 c.in_err-place-in-Break.ensures

pub returns-in_err-number-in-Delete : goal.returns-in_err-number-in-Delete
returns-in_err-number-in-Delete c = number_err (row c.args.keyword).1 command.Delete (words_in c.args.arguments.now) c.in_err-number-in-Delete.field-0.0 c.from_residual-in_err-number-in-Delete.result (ap (λ k. (row k).1) c.in-Delete.is) c.from_residual-in_err-number-in-Delete.ensures.1 c.in_err-number-in-Delete.ensures

pub returns-in_err-path-in-Watch : goal.returns-in_err-path-in-Watch
returns-in_err-path-in-Watch c = path_err (row c.args.keyword).1 command.Watch (words_in c.args.arguments.now) c.in_err-path-in-Watch.field-0.0 c.from_residual-in_err-path-in-Watch.result (ap (λ k. (row k).1) c.in-Watch.is) c.from_residual-in_err-path-in-Watch.ensures.1 c.in_err-path-in-Watch.ensures

pub returns-in_err-number-in-Unwatch : goal.returns-in_err-number-in-Unwatch
returns-in_err-number-in-Unwatch c = number_err (row c.args.keyword).1 command.Unwatch (words_in c.args.arguments.now) c.in_err-number-in-Unwatch.field-0.0 c.from_residual-in_err-number-in-Unwatch.result (ap (λ k. (row k).1) c.in-Unwatch.is) c.from_residual-in_err-number-in-Unwatch.ensures.1 c.in_err-number-in-Unwatch.ensures

pub returns-in_err-number-in-Drop : goal.returns-in_err-number-in-Drop
returns-in_err-number-in-Drop c = number_err (row c.args.keyword).1 command.DropProbe (words_in c.args.arguments.now) c.in_err-number-in-Drop.field-0.0 c.from_residual-in_err-number-in-Drop.result (ap (λ k. (row k).1) c.in-Drop.is) c.from_residual-in_err-number-in-Drop.ensures.1 c.in_err-number-in-Drop.ensures

pub returns-in-Halt : goal.returns-in-Halt
returns-in-Halt c = subst (λ k. Reads (Means (row k).1 (words_in c.args.arguments.now)) c.halt.result) (sym c.in-Halt.is) c.halt.ensures

pub returns-in_err-stretch-in-Order : goal.returns-in_err-stretch-in-Order
returns-in_err-stretch-in-Order c = stretch_err (row c.args.keyword).1 command.Order (words_in c.args.arguments.now) c.in_err-stretch-in-Order.field-0.0 c.from_residual-in_err-stretch-in-Order.result (ap (λ k. (row k).1) c.in-Order.is) c.from_residual-in_err-stretch-in-Order.ensures.1 c.in_err-stretch-in-Order.ensures
