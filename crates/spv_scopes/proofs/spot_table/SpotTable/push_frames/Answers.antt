use Rattle.std.proofs.Common.{◌∙◌, ◌++◌, List, map, ap}
use Rattle.std.specs.Prelude.{reverse}
use Rattle.std.proofs.lemmas.Result.{on_ok_weaker}
use Rattle.spv_scopes.specs.declared.calls.Linked.{Linked}
use Rattle.spv_scopes.specs.Calls.{calls_from}
use Rattle.spv_scopes.specs.Shown.{frame_at}
use Rattle.spv_scopes.proofs.ShownLemmas.{frame_alone, frame_inside}
use Rattle.spv_scopes.proofs.SpotLemmas.{spot_kept}
use Rattle.spv_scopes.proofs.spot_table.SpotTable.push_frames.Goals as goal

pub returns-then-linked-eq0 : goal.returns-then-linked-eq0
returns-then-linked-eq0 c =
    let x = c.self.inside in
    let r = c.args.real in
    let k = c.kept_at-linked.result in
    let seen = spot_kept x.calls.items x.spots c.args.self.now r.word k c.self.view_is c.kept_at-linked.ensures in
    frame_alone c.args.module.now c.args.tables.now c.args.self.now r x.calls.items k seen c.in_ok-first_frame.field-0 c.args.frames.now.items c.push.new.self.items c.if-linked-eq0.true c.in_ok-first_frame.ensures c.in_ok-push.ensures.items

pub returns : goal.returns
returns c =
    let x = c.self.inside in
    let r = c.args.real in
    let k = c.kept_at-linked.result in
    let at = frame_at c.args.module.now c.args.tables.now r in
    let seen = spot_kept x.calls.items x.spots c.args.self.now r.word k c.self.view_is c.kept_at-linked.ensures in
    let calls = ap (λ (l : List Linked). c.push.new.self.items ++ map at (calls_from (reverse l) k.call)) c.as_slice-calls.ensures.value in
    on_ok_weaker c.push_calls.result
    (λ more. frame_inside c.args.module.now c.args.tables.now c.args.self.now r x.calls.items k seen c.in_ok-first_frame.field-0 c.args.frames.now.items c.push.new.self.items c.push_calls.new.frames.items c.if-linked-eq0.false c.in_ok-first_frame.ensures c.in_ok-push.ensures.items (more ∙ calls))
    c.push_calls.ensures
