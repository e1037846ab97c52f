use Rattle.std.proofs.Common.{◌≡◌, ◌∙◌, ◌+◌, ◌≤◌, ap, sym, arith}
use Rattle.spv_group.specs.Group.{Held as Group, group_at, window_in}
use Rattle.spv_group.proofs.Exports.{window_later}
use Rattle.spv_search.proofs.lead.make_to.Goals as goal

pub up-preserved : goal.up-preserved
up-preserved g c =
    let up = c.up.invariant in
    let gone = c.in_ok-make.ensures.gone in
    let now = c.up.group in
    let next = c.make.new.group in
    let on : next.group.position ≡ now.group.position + 1 = ap (λ (x : Group). x.position) gone.same in
    let rises : window_in now ≤ window_in next = window_later now next (gone.same ∙ ap (λ n. group_at n now.group) (sym on)) gone.limit (omega (arith, on)) in
    record {
      same = gone.same ∙ ap (λ (x : Group). group_at (now.group.position + 1) x) up.same ∙ ap (λ n. group_at n c.args.group.now.group) (sym on);
      limit = gone.limit ∙ up.limit;
      until = omega (arith, on, c.up-test.true, c.position.ensures.position);
      kept = omega (arith, gone.kept, up.kept, rises);
      counted = omega (arith, c.in_ok-make.ensures.cost, up.counted, on);
      hits = λ x. c.in_ok-make.ensures.hits x ∙ up.hits x;
      told = λ x. c.in_ok-make.ensures.told x ∙ up.told x;
      suits = λ p is. c.in_ok-make.ensures.suits p (up.suits p is);
      tests = c.in_ok-make.ensures.tests ∙ up.tests;
      follows = c.in_ok-make.ensures.follows;
    }
