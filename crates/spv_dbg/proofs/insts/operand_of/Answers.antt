use Rattle.std.proofs.Common.{◌∙◌, ℕ, ap}
use Rattle.std.specs.Prelude.{Option, unwrap_or}
use Rattle.spv_dbg.proofs.OperandLemmas.{id_behind}
use Rattle.spv_dbg.proofs.insts.operand_of.Goals as goal

pub returns : goal.returns
returns c = c.unwrap_or.ensures ∙ ap (λ (o : Option ℕ). unwrap_or o 0) c.id_operand.ensures ∙ id_behind c.args.inst.now.operands c.args.n
