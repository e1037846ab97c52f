use Rattle.std.proofs.Common.{subst, sym, arith}
use Rattle.std.proofs.lemmas.Grind.{common_steps}
use Rattle.spv_ops.specs.Encoding.{IsInst}
use Rattle.spv_make.specs.Rows.{inst_of}
use Rattle.spv_make.proofs.RowLemmas.{all_at}
use Rattle.spv_make.proofs.encoding.push_rows.Goals as goal

pub push_inst-requires : goal.push_inst-requires
push_inst-requires c =
    subst IsInst (sym c.in_ok-inst.ensures)
    (all_at IsInst (λ row. inst_of c.args.turns row.0 row.1 row.2 row.3.now) c.args.rows.now c.loop-row.row-index _ c.requires c.loop-row-test.true)

pub loop-row-preserved : goal.loop-row-preserved
loop-row-preserved c = grind (arith, common_steps)
