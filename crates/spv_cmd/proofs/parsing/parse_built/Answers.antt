use Rattle.std.proofs.Common.{sym, ◌∙◌}
use Rattle.spv_cmd.specs.Commands.{command_of}
use Rattle.spv_cmd.proofs.CommandLemmas.{first_refused, blank_line, unbuilt_line, built_answers, passes_refusal}
use Rattle.spv_cmd.proofs.parsing.parse_built.Goals as goal

pub returns-in_err-split : goal.returns-in_err-split
returns-in_err-split c =
    passes_refusal (command_of c.args.line.now) c.in_err-split.field-0.0 c.from_residual.result (first_refused c.args.line.now c.in_err-split.field-0.0.code c.in_err-split.ensures) c.from_residual.ensures.1

pub returns-in-None : goal.returns-in-None
returns-in-None c = blank_line c.args.line.now (rw c.in-None.is at c.in_ok-split.ensures)

pub returns-then-not-built : goal.returns-then-not-built
returns-then-not-built c =
    let it = rw c.in-Some.is at c.in_ok-split.ensures in
    unbuilt_line c.args.line.now c.in-Some.arguments.now c.in-Some.keyword it.0 (sym it.1 ∙ (cc))

pub returns-else-not-built : goal.returns-else-not-built
returns-else-not-built c =
    let it = rw c.in-Some.is at c.in_ok-split.ensures in
    built_answers c.args.line.now c.in-Some.arguments.now c.in-Some.keyword c.command.result it.0 (sym it.1 ∙ (cc)) c.command.ensures
