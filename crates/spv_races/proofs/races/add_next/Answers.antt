use Rattle.std.proofs.Common.{◌∙◌, subst, sym}
use Rattle.spv_group.specs.Group.{entries_in}
use Rattle.spv_state.specs.Sound.{IsSound}
use Rattle.spv_state.specs.State.{State}
use Rattle.spv_races.proofs.EventLemmas.{entry_at, event_told}
use Rattle.spv_races.proofs.WayLemmas.{advanced}
use Rattle.spv_races.proofs.races.add_next.Goals as goal

pub returns-clause-added : goal.returns-clause-added
returns-clause-added g c =
    let u = c.args.group.now.group in
    let inv = entry_at (entries_in u) u.position c.in-Some.inv (sym c.next.ensures.entry ∙ c.in-Some.is) in
    record {
      position = advanced c.in_ok-more.more u c.advance.new.group.group c.in_ok-more.ensures.gone c.if-not-more.false;
      event = c.in_ok-event.event;
      list = c.in_ok-push.ensures.items;
      is = event_told c.module.result.now u.program c.world.result.now.state _ c.in-Some.inv _ c.in_ok-event.event c.module.ensures c.world.ensures.state (sym inv) c.in_ok-event.ensures;
      sound = subst (λ (s : State). IsSound u.program s) c.world.ensures.state c.world.ensures.sound;
    }
