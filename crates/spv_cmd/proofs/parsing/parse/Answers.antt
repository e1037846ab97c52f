use Rattle.spv_cmd.specs.Answers.{IsSplit}
use Rattle.spv_cmd.proofs.DueLemmas.{due_answered, known_line}
use Rattle.spv_cmd.proofs.parsing.parse.Goals as goal

pub returns-in-Some-clause-answered : goal.returns-in-Some-clause-answered
returns-in-Some-clause-answered c =
    let line = c.args.line.now in
    let rest = c.in-Some.arguments.now in
    let split : IsSplit line c.in-Some.keyword rest = (rw c.in-Some.is at c.in_ok-split.ensures).0 in
    due_answered line c.command.result (known_line line rest c.in-Some.keyword c.command.result split c.command.ensures)
