use Rattle.std.proofs.Common.{ap, length}
use Rattle.spv_types.specs.declared.limits.Limit.{Limit}
use Rattle.spv_types.specs.Limits.{limit_among}
use Rattle.spv_types.proofs.LimitLemmas.{cells_next, nesting_next, no_members}
use Rattle.spv_types.proofs.limits.members_limit.Goals as goal

pub loop-member-init : goal.loop-member-init
loop-member-init c =
    let e = no_members (limit_among c.args.types.now (length c.args.limits.now)) in
    record { deepest = ap (λ (x : Limit). x.nesting) e; together = ap (λ (x : Limit). x.cells) e }

pub loop-member-preserved : goal.loop-member-preserved
loop-member-preserved c =
    let n = nesting_next (limit_among c.args.types.now (length c.args.limits.now)) c.args.members.now c.loop-member.member-index _ c.loop-member-test.true in
    let m = cells_next (limit_among c.args.types.now (length c.args.limits.now)) c.args.members.now c.loop-member.member-index _ c.loop-member-test.true in
    record {
      deepest = rw (c.max-nesting.ensures, c.known_limit-limit.ensures, c.loop-member.invariant.deepest) n;
      together = rw (c.saturating_add-cells.ensures, c.known_limit-limit.ensures, c.loop-member.invariant.together) m;
    }
