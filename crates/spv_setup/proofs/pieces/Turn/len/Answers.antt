use Rattle.std.proofs.Common.{◌≡◌, length, sym, subst}
use Rattle.std.proofs.lemmas.List.FromFn.{length-range_with_len}
use Rattle.spv_setup.specs.Pieces.{turns_of}
use Rattle.spv_setup.proofs.pieces.Turn.len.Goals as goal

pub returns-in-Each : goal.returns-in-Each
returns-in-Each c = subst (λ t. c.args.invocations ≡ length (turns_of c.args.invocations t)) (sym c.in-Each.is) (sym (length-range_with_len 0 c.args.invocations))
