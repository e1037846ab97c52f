use Rattle.std.proofs.Common.{◌≡◌, ◌∙◌, List, ap, subst, arith}
use Rattle.spv_group.specs.Group.{Held, entries_in, group_at}
use Rattle.spv_order.specs.Order.{IsOrder}
use Rattle.spv_order.specs.declared.events.Event.{Event}
use Rattle.spv_order.specs.declared.orders.Answer.{Answer}
use Rattle.spv_order.specs.declared.orders.Answer.TheVariants.{Free}
use Rattle.spv_races.specs.Costs.{top_of}
use Rattle.spv_races.proofs.WayLemmas.{window_below}
use Rattle.spv_state.specs.Program.{Program}
use Rattle.spv_valid.specs.Acceptance.{Accepted, IsAccepted}
use Rattle.spv_races.proofs.races.order_of.Goals as goal

pub returns-in-None-clause-top : goal.returns-in-None-clause-top
returns-in-None-clause-top g c =
    let way = c.in_ok-events.ensures in
    let go = c.in_ok-go_to.ensures in
    let old = c.args.group.now in
    let next = c.go_to.new.group in
    let same = go.same ∙ ap (λ (x : Held). group_at next.group.position x) way.same in
    let last = window_below old next (top_of old c.args.to) same (go.limit ∙ way.limit) (omega (arith, go.position, c.position-position.ensures.position)) in
    omega (arith, way.top, go.kept, last)

pub returns-in_ok-order-in-Some-clause-top : goal.returns-in_ok-order-in-Some-clause-top
returns-in_ok-order-in-Some-clause-top g c =
    let way = c.in_ok-events.ensures in
    let go = c.in_ok-go_to.ensures in
    let old = c.args.group.now in
    let next = c.go_to.new.group in
    let same = go.same ∙ ap (λ (x : Held). group_at next.group.position x) way.same in
    let last = window_below old next (top_of old c.args.to) same (go.limit ∙ way.limit) (omega (arith, go.position, c.position-position.ensures.position)) in
    omega (arith, way.top, go.kept, last)

pub returns-in_ok-order-in-Some-clause-free : goal.returns-in_ok-order-in-Some-clause-free
returns-in_ok-order-in-Some-clause-free g c = λ is places among.
    let u = c.args.group.now.group in
    let events = c.in-Some.events.items in
    let found = rw c.in-Some.is at c.in_ok-events.ensures.events in
    let free : c.in_ok-order-in-Some.field-0 ≡ Free = cc in
    let ordered : IsOrder events Free
    = subst (λ (l : List Event). IsOrder l Free) c.as_slice.ensures.value (subst (λ (x : Answer). IsOrder c.as_slice.result.now x) free c.in_ok-order-in-Some.ensures) in
    let accepted : ∥ IsAccepted u.program.accepted ∥₁
    = subst (λ (a : Accepted). ∥ IsAccepted a ∥₁) (c.accepted.ensures.module ∙ ap (λ (p : Program). p.accepted) c.module.ensures) c.insts-insts.ensures.accepted in
    let least = c.end_is_least.ensures.least u.program (entries_in u) in
    let end = least.to in
    let within = found.within in
    c.free_events_change_places.ensures u.program (entries_in u) c.args.from c.args.to events places accepted (omega (arith, c.requires.order)) (omega (arith, end, within)) found.sound found.are ordered among
