use Rattle.std.proofs.Common.{◌≡◌, ◌≤◌, ◌+◌, ◌++◌, ◌==◌, OnOk, ap, cond, not, subst}
use Rattle.spv_group.specs.Group.{Held as Group}
use Rattle.spv_probe.specs.Kits.{tests_of}
use Rattle.spv_search.specs.Keys.{tables_in}
use Rattle.spv_search.specs.Stops.{done_forward}
use Rattle.spv_session.specs.Costs.{motion_cost}
use Rattle.spv_session.specs.Motions.{hit_of, no_hit, search_on}
use Rattle.spv_session.specs.Reply.{motion_reply}
use Rattle.spv_session.specs.View.{Viewing}
use Rattle.spv_session.proofs.ProbeLemmas.{follows_seen}
use Rattle.spv_session.proofs.SearchLemmas.{searched_text, searched_view, tested, view_of}
use Rattle.spv_session.proofs.session.Core.search_on.Goals as goal

pub seek_on-requires-clause-follows : goal.seek_on-requires-clause-follows
seek_on-requires-clause-follows g c =
    follows_seen (λ b. (goal.Probe-dyn g (b.vtable, b.value)).tally b.value) (λ b. (goal.Probe-dyn g (b.vtable, b.value)).test b.value) c.args.kit.now.boxes.items c.args.self.now.view.group c.self.inside.group.group (ap (λ (x : Viewing). x.view.group) c.self.view_is) c.requires

pub returns-clause-text : goal.returns-clause-text
returns-clause-text g c =
    let from = c.self.inside.group.group in
    let to = c.seek_on.new.group.group in
    let inv = c.self.inside.focus in
    let frame = c.self.inside.frame in
    let bs = c.self.inside.breaks in
    let ws = c.self.inside.watches in
    let hs = c.self.inside.halts in
    let ks = c.self.inside.dropped.items in
    let tests = tests_of (λ b. (goal.Probe-dyn g (b.vtable, b.value)).test b.value) c.args.kit.now.boxes.items in
    let found = c.in_ok-found.found in
    let at = c.in_ok-found.ensures in
    subst (λ (s : Viewing). OnOk c.stop.result (c.stop.new.text.items ≡ c.args.text.now.items ++ (motion_reply tests s.view (search_on c.args.command s.view)).0)) c.self.view_is
    (searched_text from to inv frame bs ws hs ks tests (search_on c.args.command (view_of from inv frame bs ws hs ks)) found.done found.hit found.focus at.same at.target
    (tested (done_forward c.args.command inv from) from to _ found.done at.same at.target at.done)
    (tested (λ (k : Group). cond (not (k.position == from.position)) (hit_of (tables_in from) bs ws hs tests k) no_hit) from to _ found.hit at.same at.target at.hit)
    at.focus c.stop.result c.stop.new.self.view c.args.text.now.items c.stop.new.text.items c.stop.ensures.text c.stop.ensures.view)

pub returns-clause-view : goal.returns-clause-view
returns-clause-view g c =
    let from = c.self.inside.group.group in
    let to = c.seek_on.new.group.group in
    let inv = c.self.inside.focus in
    let frame = c.self.inside.frame in
    let bs = c.self.inside.breaks in
    let ws = c.self.inside.watches in
    let hs = c.self.inside.halts in
    let ks = c.self.inside.dropped.items in
    let tests = tests_of (λ b. (goal.Probe-dyn g (b.vtable, b.value)).test b.value) c.args.kit.now.boxes.items in
    let found = c.in_ok-found.found in
    let at = c.in_ok-found.ensures in
    subst (λ (s : Viewing). OnOk c.stop.result (c.stop.new.self.view ≡ (motion_reply tests s.view (search_on c.args.command s.view)).1)) c.self.view_is
    (searched_view from to inv frame bs ws hs ks tests (search_on c.args.command (view_of from inv frame bs ws hs ks)) found.done found.hit found.focus at.same at.target
    (tested (done_forward c.args.command inv from) from to _ found.done at.same at.target at.done)
    (tested (λ (k : Group). cond (not (k.position == from.position)) (hit_of (tables_in from) bs ws hs tests k) no_hit) from to _ found.hit at.same at.target at.hit)
    at.focus c.stop.result c.stop.new.self.view c.stop.ensures.view)

pub returns-clause-follows : goal.returns-clause-follows
returns-clause-follows g c =
    follows_seen (λ b. (goal.Probe-dyn g (b.vtable, b.value)).tally b.value) (λ b. (goal.Probe-dyn g (b.vtable, b.value)).test b.value) c.seek_on.new.kit.boxes.items c.seek_on.new.group.group c.stop.new.self.view.group c.stop.ensures.group c.seek_on.ensures.follows

pub returns-in_err-found-clause-cost : goal.returns-in_err-found-clause-cost
returns-in_err-found-clause-cost g c =
    let tests = tests_of (λ b. (goal.Probe-dyn g (b.vtable, b.value)).test b.value) c.args.kit.now.boxes.items in
    subst (λ (s : Viewing). c.seek_on.new.steps ≤ c.args.steps.now + motion_cost tests s.kept s.view (search_on c.args.command s.view)) c.self.view_is c.seek_on.ensures.cost

pub returns-clause-cost : goal.returns-clause-cost
returns-clause-cost g c =
    let tests = tests_of (λ b. (goal.Probe-dyn g (b.vtable, b.value)).test b.value) c.args.kit.now.boxes.items in
    subst (λ (s : Viewing). c.seek_on.new.steps ≤ c.args.steps.now + motion_cost tests s.kept s.view (search_on c.args.command s.view)) c.self.view_is c.seek_on.ensures.cost
