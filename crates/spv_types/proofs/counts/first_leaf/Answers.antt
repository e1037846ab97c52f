use Rattle.spv_types.proofs.CountedLemmas.{counted_first}
use Rattle.spv_types.proofs.counts.first_leaf.Goals as goal

pub returns-in-Some : goal.returns-in-Some
returns-in-Some c = rw c.as_slice.ensures (counted_first c.args.types.now c.args.number c.args.i c.args.members.now c.in-Some.count.now c.in-Some.ensures c.requires.members c.requires.inside)
