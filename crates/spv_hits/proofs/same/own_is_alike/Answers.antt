use Rattle.std.proofs.Common.{◌≡◌, ◌∙◌, ◌+◌, ◌≤◌, ℕ, List, Some, ap, false, length, slice_get, subst, sym, arith}
use Rattle.std.specs.List.{All}
use Rattle.spv_base.specs.declared.values.PassedEvent.{PassedEvent}
use Rattle.spv_expr.specs.Groups.{is_event_of}
use Rattle.spv_state.specs.State.{frames_of}
use Rattle.spv_stops.specs.Watches.{WatchKey}
use Rattle.spv_hits.specs.Kept.{last_of}
use Rattle.spv_hits.proofs.AlikeLemmas.{below_alike, top_alike}
use Rattle.spv_hits.proofs.same.own_is_alike.Goals as goal

pub returns-then-key-depth : goal.returns-then-key-depth
returns-then-key-depth c = λ e s u did frames.
    let k = c.args.key.now in
    let depth : c.key.inside.depth ≡ k.depth = ap (λ (y : WatchKey). y.depth) c.key.view_is in
    let many : length c.args.stack.now.frames ≡ length (frames_of u k.inv) = ap length frames in
    let there : slice_get (frames_of u k.inv) k.depth ≡ Some c.in-Some.frame.now = sym (c.in-Some.ensures ∙ ap (slice_get c.args.stack.now.frames) depth ∙ ap (λ fs. slice_get fs k.depth) frames) in
    below_alike c.args.tables.now k c.args.touch s u did c.in-Some.frame.now there (omega (arith, depth, many, c.if-key-depth.true, c.depth.ensures))

pub returns : goal.returns
returns c = λ e s u did frames.
    let t = c.args.tables.now in
    let k = c.args.key.now in
    let x = c.args.touch in
    let g = c.in-Some.frame.now in
    let depth : c.key.inside.depth ≡ k.depth = ap (λ (y : WatchKey). y.depth) c.key.view_is in
    let many : length c.args.stack.now.frames ≡ length (frames_of u k.inv) = ap length frames in
    let there : slice_get (frames_of u k.inv) k.depth ≡ Some g = sym (c.in-Some.ensures ∙ ap (slice_get c.args.stack.now.frames) depth ∙ ap (λ fs. slice_get fs k.depth) frames) in
    let top : length (frames_of u k.inv) ≤ k.depth + 1 = omega (arith, depth, many, c.if-key-depth.false, c.depth.ensures) in
    let others = λ (v : ℕ) (es : List PassedEvent). All (λ (y : PassedEvent). is_event_of t v y.word ≡ false) es in
    let none : others c.key.inside.variable (last_of x.events g.events) = subst (others c.key.inside.variable) (c.last.ensures ∙ ap (last_of x.events) c.events.ensures) (c.none_is_of.ensures e) in
    top_alike t k x s u did c.other_events_tell_nothing.ensures g there top (c.is_pushed.ensures c.if-is_pushed.false) c.requires
    (subst (λ v. others v (last_of x.events g.events)) (ap (λ (y : WatchKey). y.variable) c.key.view_is) none)
