use Rattle.std.proofs.Common.{Ok, sym, subst}
use Rattle.spv_cmd.specs.Grammar.{IsLine}
use Rattle.spv_cmd.proofs.printing.read_again.Goals as goal

pub returns : goal.returns
returns c = c.parse.ensures.answered (Ok c.args.command.now) (subst (λ line. IsLine line c.args.command.now) (sym c.as_slice.ensures) c.in_ok-text.ensures.line)
