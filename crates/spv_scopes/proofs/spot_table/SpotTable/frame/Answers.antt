use Rattle.std.proofs.Common.{◌≡◌, ◌∙◌, List, suc, Some, None, ap, arith}
use Rattle.std.specs.Prelude.{reverse, slice_get}
use Rattle.spv_dbg.specs.declared.frames.ShownFrame.{ShownFrame}
use Rattle.spv_scopes.specs.declared.calls.Linked.{Linked}
use Rattle.spv_scopes.specs.Calls.{calls_from}
use Rattle.spv_scopes.proofs.ShownLemmas.{first_numbered, none_numbered, outer_numbered}
use Rattle.spv_scopes.proofs.SpotLemmas.{spot_kept}
use Rattle.spv_scopes.proofs.spot_table.SpotTable.frame.Goals as goal

pub returns-in_default : goal.returns-in_default
returns-in_default c =
    let x = c.self.inside in
    let r = c.args.real in
    let k = c.kept_at-linked.result in
    let seen = spot_kept x.calls.items x.spots c.args.self.now r.word k c.self.view_is c.kept_at-linked.ensures in
    let first : c.args.number ≡ 0 = omega (arith, c.in_default.ensures) in
    first_numbered c.args.module.now c.args.tables.now c.args.self.now r x.calls.items k seen c.in_ok-first_frame.field-0 c.args.number first c.in_ok-first_frame.ensures

pub returns-then-linked-eq0 : goal.returns-then-linked-eq0
returns-then-linked-eq0 c =
    let x = c.self.inside in
    let r = c.args.real in
    let k = c.kept_at-linked.result in
    let seen = spot_kept x.calls.items x.spots c.args.self.now r.word k c.self.view_is c.kept_at-linked.ensures in
    let next : c.args.number ≡ suc c.in-Some.outer = omega (arith, c.in-Some.ensures) in
    none_numbered c.args.module.now c.args.tables.now c.args.self.now r x.calls.items k seen c.args.number c.in-Some.outer next c.if-linked-eq0.true

pub returns-in_ok-frame_at-in-Some-place_outward :
    goal.returns-in_ok-frame_at-in-Some-place_outward
returns-in_ok-frame_at-in-Some-place_outward c =
    let x = c.self.inside in
    let r = c.args.real in
    let k = c.kept_at-linked.result in
    let seen = spot_kept x.calls.items x.spots c.args.self.now r.word k c.self.view_is c.kept_at-linked.ensures in
    let next : c.args.number ≡ suc c.in-Some.outer = omega (arith, c.in-Some.ensures) in
    let there = ap (λ (l : List Linked). slice_get (calls_from (reverse l) k.call) c.in-Some.outer) c.as_slice.ensures.value in
    ap (λ (f : ShownFrame). Some f) c.in_ok-frame_at-in-Some-place_outward.ensures
    ∙ outer_numbered c.args.module.now c.args.tables.now c.args.self.now r x.calls.items k seen c.args.number c.in-Some.outer (Some c.in-Some-place_outward.place) next c.if-linked-eq0.false (c.in-Some-place_outward.ensures ∙ there)

pub returns-in-None : goal.returns-in-None
returns-in-None c =
    let x = c.self.inside in
    let r = c.args.real in
    let k = c.kept_at-linked.result in
    let seen = spot_kept x.calls.items x.spots c.args.self.now r.word k c.self.view_is c.kept_at-linked.ensures in
    let next : c.args.number ≡ suc c.in-Some.outer = omega (arith, c.in-Some.ensures) in
    let there = ap (λ (l : List Linked). slice_get (calls_from (reverse l) k.call) c.in-Some.outer) c.as_slice.ensures.value in
    outer_numbered c.args.module.now c.args.tables.now c.args.self.now r x.calls.items k seen c.args.number c.in-Some.outer None next c.if-linked-eq0.false (c.in-None.ensures ∙ there)
