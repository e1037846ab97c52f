use Rattle.std.proofs.Common.{arith}
use Rattle.std.proofs.lemmas.Grind.{common_steps}
use Rattle.spv_dbg.proofs.InlinedLemmas.{entries_all}
use Rattle.spv_dbg.proofs.inlined.inlined_entries.Goals as goal

pub loop-n-preserved : goal.loop-n-preserved
loop-n-preserved c = grind (arith, common_steps)

pub returns : goal.returns
returns c = entries_all c.loop-n.entries.items c.loop-n.before c.loop-n.n c.args.stands.now c.args.marks.now (omega arith) c.loop-n.invariant
