use Rattle.std.proofs.Common.{◌∙◌, sym}
use Rattle.spv_scopes.specs.Shown.{shown_of}
use Rattle.spv_scopes.proofs.CountLemmas.{line_is, no_line}
use Rattle.spv_scopes.proofs.stacks.innermost_line.Goals as goal

pub returns-in_err-pc : goal.returns-in_err-pc
unfolding shown_of
returns-in_err-pc c = λ m t. no_line m t c.args.lines.now.spots c.args.stack.now.frames c.from_residual.result (sym c.pc.ensures ∙ c.in_err-pc.was) c.from_residual.ensures

pub returns : goal.returns
unfolding shown_of
returns c = λ m t. line_is m t c.args.lines.now.spots c.args.stack.now.frames c.in_ok-pc.field-0 c.line.result (sym c.pc.ensures ∙ c.in_ok-pc.was) c.line.ensures
