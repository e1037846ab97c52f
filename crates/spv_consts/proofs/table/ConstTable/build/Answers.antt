use Rattle.spv_consts.proofs.BuildLemmas.{answer_is}
use Rattle.spv_consts.proofs.table.ConstTable.build.Goals as goal

pub returns : goal.returns
returns c =
    let same = c.insts-insts.ensures.insts in
    answer_is c.args.types c.args.index.now.insts _ c.args.over.now c.in_ok-context.context c.new.result c.lowest_wrong-word.result c.known_after-outcome.result c.unless_earlier.result c.in_ok-context.ensures c.new.ensures
    c.functions_start.ensures.before (rw same at c.lowest_wrong-word.ensures) (rw same at c.known_after-outcome.ensures) c.unless_earlier.ensures
