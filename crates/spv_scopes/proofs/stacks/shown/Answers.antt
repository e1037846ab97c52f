use Rattle.std.proofs.Common.{◌≡◌, ◌-◌, ◌∙◌, ◌++◌, List, append-nil, suc, take, Some, None, sym, ap, arith}
use Rattle.std.proofs.lemmas.List.{take_all}
use Rattle.spv_dbg.specs.declared.frames.ShownFrame.{ShownFrame}
use Rattle.spv_scopes.specs.Shown.{frames_from, shown_of}
use Rattle.spv_scopes.proofs.ShownLemmas.{call_put}
use Rattle.spv_scopes.proofs.stacks.shown.Goals as goal

pub frames-init : goal.frames-init
frames-init c =
    let fs = c.args.stack.now.frames in
    let from = frames_from c.args.module.now c.args.tables.now c.args.lines.now.spots 0 in
    let whole : take c.in-Ok.depth fs ≡ fs = take_all c.in-Ok.depth fs (omega (arith, c.in-Ok.ensures, c.depth.ensures)) in
    ap (λ (l : List ShownFrame). l ++ from (take c.in-Ok.depth fs)) c.new-frames.ensures.items ∙ ap from whole

pub frames-preserved-in-Continue-1 : goal.frames-preserved-in-Continue-1
frames-preserved-in-Continue-1 c =
    let d = c.frames.depth - 1 in
    let next : c.frames.depth ≡ suc d = omega arith in
    call_put c.args.module.now c.args.tables.now c.args.lines.now.spots c.args.stack.now.frames c.frames.depth d (Some c.in-Some.real) c.frames.frames.items c.push_frames.new.frames.items _ next c.in-Some.ensures c.in_ok-push_frames.ensures c.frames.invariant

pub frames-preserved : goal.frames-preserved
frames-preserved c =
    let d = c.frames.depth - 1 in
    let next : c.frames.depth ≡ suc d = omega arith in
    let same = sym (append-nil c.frames.frames.items) in
    call_put c.args.module.now c.args.tables.now c.args.lines.now.spots c.args.stack.now.frames c.frames.depth d None c.frames.frames.items c.frames.frames.items _ next c.in_default-call_at.ensures same c.frames.invariant

pub returns : goal.returns
unfolding shown_of
returns c =
    let none : c.frames.depth ≡ 0 = omega arith in
    let below = ap (λ n. c.frames.frames.items ++ frames_from c.args.module.now c.args.tables.now c.args.lines.now.spots 0 (take n c.args.stack.now.frames)) none in
    sym (append-nil c.frames.frames.items) ∙ sym below ∙ c.frames.invariant
