use Rattle.std.proofs.Common.{◌∙◌, ◌<◌, ◌≤◌, ap, arith, refl, sym}
use Rattle.spv_journal.specs.Events.{fitting, size}
use Rattle.spv_journal.proofs.RingLemmas.{all_fit, oldest_goes}
use Rattle.spv_journal.proofs.rings.Ring.make_room.Goals as goal

pub loop-self-preserved : goal.loop-self-preserved
loop-self-preserved c =
    let vs = c.loop-self.self.events in
    let more : c.args.room < size vs = omega (arith, c.len.ensures.len, c.loop-self-test.true) in
    record {
      events = ap (fitting c.args.room) c.drop_oldest.ensures.events ∙ oldest_goes c.args.room vs more ∙ c.loop-self.invariant.events;
      limit = c.drop_oldest.ensures.limit ∙ c.loop-self.invariant.limit;
      room = refl;
    }

pub returns-clause-events : goal.returns-clause-events
returns-clause-events c =
    let vs = c.loop-self.self.events in
    let less : size vs ≤ c.args.room = omega (arith, c.len.ensures.len, c.loop-self-test.false) in
    sym (all_fit c.args.room vs less) ∙ c.loop-self.invariant.events
