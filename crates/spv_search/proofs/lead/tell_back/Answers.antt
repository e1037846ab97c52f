use Rattle.std.proofs.Common.{◌∙◌, ◌+◌, length}
use Rattle.spv_group.specs.Group.{group_at}
use Rattle.spv_search.proofs.PastLemmas.{popped}
use Rattle.spv_search.proofs.lead.tell_back.Goals as goal

pub back-requires : goal.back-requires
back-requires g c =
    let x = c.requires.0 in
    let so_far = c.down.invariant.follows x c.requires.1 c.requires.2 c.requires.3 in
    let one = popped (g.H.Hits.follows c.down.hits) c.args.module.now x c.down.past.events.items c.pop.new.self.items c.in-Some.happening c.in-Some.ensures.items so_far.0 so_far.1 in
    (group_at (x.position + length c.pop.new.self.items) x, one.last, c.down.invariant.suits x.program c.requires.2, one.behind)

pub down-preserved : goal.down-preserved
down-preserved g c =
    let down = c.down.invariant in
    let back = c.back.ensures in
    record {
      hits = λ x. back.same x ∙ down.hits x;
      told = λ x. back.told x ∙ down.told x;
      suits = λ p is. back.suits p (down.suits p is);
      tests = back.tests ∙ down.tests;
      follows = λ x past suits behind. (
          let so_far = down.follows x past suits behind in
          let one = popped (g.H.Hits.follows c.down.hits) c.args.module.now x c.down.past.events.items c.pop.new.self.items c.in-Some.happening c.in-Some.ensures.items so_far.0 so_far.1 in
          (one.others, back.follows (group_at (x.position + length c.pop.new.self.items) x) one.last (down.suits x.program suits) one.behind));
    }
