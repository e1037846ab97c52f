use Rattle.std.proofs.Common.{◌≡◌, ◌∷◌, ◌+◌, length, rules}
use Rattle.std.specs.Vec.Iter.{into_iter_items}
use Rattle.spv_machine.proofs.PassedLemmas.{appends_begin, appends_none, appends_one, appends_records, appends_some}
use Rattle.spv_machine.proofs.Recording.{making_on, records_more, records_on}
use Rattle.spv_machine.proofs.passing.append_all.Goals as goal

pub loop-event-init : goal.loop-event-init
loop-event-init c =
    let same : into_iter_items c.into_iter-event-iterator.result ≡ c.args.events.items = search rules in
    appends_begin c.args.inv c.args.events.items (into_iter_items c.into_iter-event-iterator.result) c.args.recorded.now same c.requires.inside c.requires.frames

pub append-requires-clause-making : goal.append-requires-clause-making
append-requires-clause-making c =
    let g = c.loop-event.invariant in
    making_on g.count c.args.inv c.args.recorded.now c.loop-event.recorded c.requires.making g.records

pub append-requires-clause-inside : goal.append-requires-clause-inside
append-requires-clause-inside c = c.loop-event.invariant.inside

pub append-requires-clause-frames : goal.append-requires-clause-frames
append-requires-clause-frames c = c.loop-event.invariant.frames

pub returns-in_err-append-clause-recorded : goal.returns-in_err-append-clause-recorded
returns-in_err-append-clause-recorded c =
    let g = c.loop-event.invariant in
    let rest : into_iter_items c.loop-event.event-iterator ≡ c.in-Some.event ∷ into_iter_items c.next.new.self = search rules in
    let one = appends_some c.args.inv c.args.events.items (into_iter_items c.loop-event.event-iterator) (into_iter_items c.next.new.self) c.in-Some.event c.args.recorded.now c.loop-event.recorded rest g in
    records_more (g.count + 1) (length c.args.events.items) c.args.recorded.now c.append.new.self one (records_on g.count 1 c.args.recorded.now c.loop-event.recorded c.append.new.self g.records c.append.ensures.recorded)

pub loop-event-preserved : goal.loop-event-preserved
loop-event-preserved c =
    let rest : into_iter_items c.loop-event.event-iterator ≡ c.in-Some.event ∷ into_iter_items c.next.new.self = search rules in
    appends_one c.args.inv c.args.events.items (into_iter_items c.loop-event.event-iterator) (into_iter_items c.next.new.self) c.in-Some.event c.args.recorded.now c.loop-event.recorded c.append.new.self rest
    c.loop-event.invariant c.in_ok-append.ensures.ok c.append.ensures.recorded

pub returns-clause-ok : goal.returns-clause-ok
returns-clause-ok c =
    let none : length (into_iter_items c.loop-event.event-iterator) ≡ 0 = search rules in
    appends_none c.args.inv c.args.events.items (into_iter_items c.loop-event.event-iterator) c.args.recorded.now c.loop-event.recorded none c.loop-event.invariant

pub returns-clause-recorded : goal.returns-clause-recorded
returns-clause-recorded c =
    appends_records c.args.inv c.args.events.items (into_iter_items c.loop-event.event-iterator) c.args.recorded.now c.loop-event.recorded c.loop-event.invariant
