use Rattle.std.proofs.Common.{◌≡◌, ◌≤◌, ◌+◌, max, ap, ◌∙◌, sym, arith}
use Rattle.spv_group.specs.Group.{Held as Group, group_at, window_in}
use Rattle.spv_group.proofs.Exports.{window_later}
use Rattle.spv_session.proofs.motions.run_on.Goals as goal

pub up-preserved : goal.up-preserved
up-preserved g c =
    let gone = rw c.in-Some.is at c.in_ok-go_on.ensures.goes in
    let up = c.up.invariant in
    let before = c.up.group in
    let after = c.go_on.new.group in
    let on : after.group.position ≡ before.group.position + 1 = ap (λ (x : Group). x.position) gone.same in
    let same : after.group ≡ group_at after.group.position before.group = gone.same ∙ ap (λ n. group_at n before.group) (sym on) in
    let kept : after.kept ≤ max before.kept (window_in after) = gone.kept in
    let rises : window_in before ≤ window_in after = window_later before after same gone.limit (omega (arith, on)) in
    record {
      same = same ∙ ap (group_at after.group.position) up.same;
      limit = gone.limit ∙ up.limit;
      later = omega (arith, on, up.later);
      until = omega (arith, on, up.until, c.up-test.true, c.position.ensures.position);
      counted = omega (arith, on, up.counted, up.later, c.in_ok-go_on.ensures.counted, c.in_ok-go_on.ensures.cost);
      kept = omega (arith, kept, up.kept, rises);
      suits = c.in_ok-go_on.ensures.suits c.args.group.now.group.program up.suits;
      tests = c.in_ok-go_on.ensures.tests ∙ up.tests;
      follows = c.in_ok-go_on.ensures.follows;
    }
