use Rattle.std.proofs.Common.{length}
use Rattle.spv_types.specs.Layout.{size_among}
use Rattle.spv_types.proofs.LayoutLemmas.{greatest_next, no_end}
use Rattle.spv_types.proofs.layout.greatest_end.Goals as goal

pub loop-member-init : goal.loop-member-init
loop-member-init c = no_end (size_among c.args.types.now (length c.args.sizes.now))

pub loop-member-preserved : goal.loop-member-preserved
loop-member-preserved c =
    let e = greatest_next (size_among c.args.types.now (length c.args.sizes.now)) c.args.members.now c.loop-member.member-index _ c.loop-member-test.true in
    rw (c.max-greatest.ensures, c.saturating_add.ensures, c.start.ensures, c.known_size.ensures, c.loop-member.invariant) e
