use Rattle.std.proofs.Common.{sym}
use Rattle.spv_cmd.proofs.KeywordLemmas.{rows, no_row, row_found}
use Rattle.spv_cmd.proofs.keywords.find_keyword.Goals as goal

pub returns-in-None : goal.returns-in-None
unfolding rows
returns-in-None c = no_row c.args.word.now (sym (rw c.in-None.is at c.row_in.ensures))

pub returns-in-Some : goal.returns-in-Some
unfolding rows
returns-in-Some c = row_found c.args.word.now (c.in-Some.row.0, c.in-Some.row.1.now, c.in-Some.row.2) (sym (rw c.in-Some.is at c.row_in.ensures))
