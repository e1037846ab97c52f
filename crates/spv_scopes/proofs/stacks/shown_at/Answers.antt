use Rattle.std.proofs.Common.{◌≡◌, ◌-◌, ◌∙◌, suc, arith}
use Rattle.std.proofs.lemmas.Result.{IfOk-weaker}
use Rattle.spv_scopes.specs.Shown.{shown_of}
use Rattle.spv_scopes.proofs.CountLemmas.{numbered_below, numbered_beyond, numbered_here, numbered_past}
use Rattle.spv_scopes.proofs.stacks.shown_at.Goals as goal

pub frames-init : goal.frames-init
frames-init c = numbered_below c.args.module.now c.args.tables.now c.args.lines.now.spots c.args.stack.now.frames c.in-Ok.depth c.args.number c.from-left.result (omega (arith, c.in-Ok.ensures, c.depth.ensures)) c.from-left.ensures

pub returns-then-left-count : goal.returns-then-left-count
unfolding shown_of
returns-then-left-count c =
    let d = c.frames.depth - 1 in
    let next : c.frames.depth ≡ suc d = omega arith in
    let here = numbered_here c.args.module.now c.args.tables.now c.args.lines.now.spots c.args.stack.now.frames c.frames.depth d next c.frames.left c.in-Some.real c.count-count.result c.in-Some.ensures c.count-count.ensures c.if-left-count.true in
    IfOk-weaker c.frame.result _ _ (λ frame is. is ∙ here ∙ c.frames.invariant) c.frame.ensures

pub frames-preserved-in-Some : goal.frames-preserved-in-Some
frames-preserved-in-Some c =
    let d = c.frames.depth - 1 in
    let next : c.frames.depth ≡ suc d = omega arith in
    numbered_past c.args.module.now c.args.tables.now c.args.lines.now.spots c.args.stack.now.frames c.frames.depth d next c.frames.left c.in-Some.real c.count-count.result c.in-Some.ensures c.count-count.ensures c.if-left-count.false
    ∙ c.frames.invariant

pub frames-preserved : goal.frames-preserved
frames-preserved c =
    let d = c.frames.depth - 1 in
    let next : c.frames.depth ≡ suc d = omega arith in
    numbered_beyond c.args.module.now c.args.tables.now c.args.lines.now.spots c.args.stack.now.frames c.frames.depth d next c.frames.left c.in_default-call_at.ensures
    ∙ c.frames.invariant
