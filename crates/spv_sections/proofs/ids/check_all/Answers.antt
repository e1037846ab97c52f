use Rattle.std.proofs.Common.{arith}
use Rattle.std.proofs.lemmas.Result.{err_from_is_err_and}
use Rattle.spv_index.specs.Positions.{Stand}
use Rattle.spv_sections.proofs.IdLemmas.{inst_kept, inst_refused, insts_done}
use Rattle.spv_sections.proofs.ids.check_all.Goals as goal

pub returns-in_err-check_inst : goal.returns-in_err-check_inst
returns-in_err-check_inst c =
    let p = err_from_is_err_and c.from_residual.result c.from_residual.ensures.1 in
    let s : Stand = record { position = c.at-stand.result.position; class = c.at-stand.result.class; inst = c.at-stand.result.inst.now } in
    rw (p.1, p.2) (inst_refused c.args.index.now c.args.stands.now c.loop-n.n s c.of-scope.result _ c.at-stand.ensures c.of-scope.ensures c.in_err-check_inst.ensures c.loop-n.invariant)

pub loop-n-preserved : goal.loop-n-preserved
loop-n-preserved c =
    let s : Stand = record { position = c.at-stand.result.position; class = c.at-stand.result.class; inst = c.at-stand.result.inst.now } in
    inst_kept c.args.index.now c.args.stands.now c.loop-n.n s c.of-scope.result c.at-stand.ensures c.of-scope.ensures c.in_ok-check_inst.ensures c.loop-n.invariant

pub returns : goal.returns
returns c = insts_done c.args.index.now c.args.stands.now c.loop-n.n (omega arith) c.loop-n.invariant
