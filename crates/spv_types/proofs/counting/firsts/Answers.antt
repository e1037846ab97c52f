use Rattle.std.proofs.Common.{ap, arith, sym, refl}
use Rattle.std.specs.Option.{option_map}
use Rattle.spv_types.specs.Cells.{cells_among}
use Rattle.spv_base.specs.Saturation.{saturated}
use Rattle.spv_types.proofs.CellLemmas.{members_cells_nil}
use Rattle.spv_types.proofs.CountedLemmas.{first_next, firsts_next}
use Rattle.spv_types.proofs.counting.firsts.Goals as goal

pub loop-member-init : goal.loop-member-init
loop-member-init c = record {
  firsts = rw c.new-firsts.ensures (record { long = refl; firsts_are = λ i l. absurd (omega arith) });
  before = sym (ap (option_map saturated) (members_cells_nil (cells_among c.args.types.now c.args.limit)));
}

pub loop-member-preserved : goal.loop-member-preserved
loop-member-preserved c = record {
  firsts = rw c.in_ok-push.ensures.ok (firsts_next (cells_among c.args.types.now c.args.limit) c.args.members.now c.loop-member.member-index c.loop-member.firsts c.loop-member.before c.loop-member.invariant.firsts c.loop-member.invariant.before);
  before = first_next (cells_among c.args.types.now c.args.limit) c.args.members.now c.loop-member.member-index _ c.loop-member.before _ _ c.loop-member-test.true c.loop-member.invariant.before c.cells_among.ensures c.sum-before.ensures;
}
