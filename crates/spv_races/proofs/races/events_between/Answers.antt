use Rattle.std.proofs.Common.{◌∙◌, ap, arith}
use Rattle.std.proofs.lemmas.Result.{on_ok_weaker}
use Rattle.spv_group.specs.Group.{Held, group_at}
use Rattle.spv_races.specs.Costs.{top_of}
use Rattle.spv_races.proofs.WayLemmas.{same_end, window_below}
use Rattle.spv_races.proofs.races.events_between.Goals as goal

pub returns-then-position-from-clause-top : goal.returns-then-position-from-clause-top
returns-then-position-from-clause-top g c =
    let go = c.in_ok-go_to.ensures in
    let old = c.args.group.now in
    let first = window_below old c.go_to.new.group (top_of old c.args.to) go.same go.limit (omega (arith, go.position, c.requires.order)) in
    omega (arith, go.kept, first)

pub returns-clause-top : goal.returns-clause-top
returns-clause-top g c =
    let go = c.in_ok-go_to.ensures in
    let events = c.events_to.ensures in
    let old = c.args.group.now in
    let now = c.go_to.new.group in
    let next = c.events_to.new.group in
    let end = same_end old.group now.group go.same in
    let first = window_below old now (top_of old c.args.to) go.same go.limit (omega (arith, go.position, c.requires.order)) in
    let same = events.same ∙ ap (λ (x : Held). group_at next.group.position x) go.same in
    on_ok_weaker c.events_to.result
    (λ position. let last = window_below old next (top_of old c.args.to) same (events.limit ∙ go.limit) (omega (arith, position, end)) in omega (arith, events.kept, go.kept, first, last)) events.position

pub returns-clause-kept : goal.returns-clause-kept
returns-clause-kept g c =
    let go = c.in_ok-go_to.ensures in
    let events = c.events_to.ensures in
    let old = c.args.group.now in
    let first = window_below old c.go_to.new.group (top_of old c.args.to) go.same go.limit (omega (arith, go.position, c.requires.order)) in
    omega (arith, events.kept, go.kept, first)
