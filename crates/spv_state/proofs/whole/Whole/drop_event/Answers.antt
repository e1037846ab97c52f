use Rattle.std.proofs.Common.{◌≢◌, [], Option, subst}
use Rattle.std.specs.Option.{IsSomeAnd}
use Rattle.spv_frame.specs.Frames.{Held as Frame}
use Rattle.spv_state.specs.State.{drop_event}
use Rattle.spv_state.proofs.ChangeLemmas.{inside, put_bounded, put_stack, top_bounded}
use Rattle.spv_state.proofs.UndoingLemmas.{event_dropped, top_is}
use Rattle.spv_state.proofs.whole.Whole.drop_event.Goals as goal

pub drop_event-event-requires : goal.drop_event-event-requires
drop_event-event-requires c =
    let w = c.self.inside in
    subst (λ (o : Option Frame). IsSomeAnd o (λ f. f.events ≢ [])) (top_is w.plans w.memory w.stacks.items w.statuses c.args.self.now c.args.i c.index_mut.result.now c.self.view_is (inside c.self.view_is c.requires.inv) c.index_mut.ensures.value) c.requires.events

pub invariant_of-self : goal.invariant_of-self
invariant_of-self c =
    let w = c.self.inside in (
      c.self.invariant.0,
      put_bounded w.stacks.items c.args.i c.index_mut.result.now c.drop_event-event.new.self (inside c.self.view_is c.requires.inv) c.index_mut.ensures.value c.self.invariant.1
          (top_bounded (drop_event) c.index_mut.result.now c.drop_event-event.new.self (event_dropped c.index_mut.result.now c.drop_event-event.new.self c.drop_event-event.result c.drop_event-event.ensures)),
    )

pub returns : goal.returns
returns c =
    let w = c.self.inside in
    put_stack w.plans w.memory w.stacks.items w.statuses c.args.self.now c.args.i c.index_mut.result.now c.drop_event-event.new.self (drop_event) c.self.view_is (inside c.self.view_is c.requires.inv) c.index_mut.ensures.value (event_dropped c.index_mut.result.now c.drop_event-event.new.self c.drop_event-event.result c.drop_event-event.ensures)
