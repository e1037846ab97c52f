use Rattle.std.proofs.Common.{arith}
use Rattle.std.proofs.lemmas.Grind.{common_steps}
use Rattle.spv_dbg.specs.Marks.{known}
use Rattle.spv_dbg.proofs.MeasureLemmas.{members_all}
use Rattle.spv_dbg.proofs.measures.members.Goals as goal

pub loop-id-preserved : goal.loop-id-preserved
loop-id-preserved c = grind (arith, common_steps)

pub returns : goal.returns
returns c =
    let i = c.loop-id.invariant in
    members_all (known c.args.module.now c.args.marks.now) c.loop-id.all c.loop-id.id-index c.args.ids.now _ c.loop-id-test.false i.bits i.nesting i.same
