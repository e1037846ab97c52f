use Rattle.std.proofs.Common.{◌∙◌, ◌++◌, append-nil, map, sym, ap}
use Rattle.std.specs.Prelude.{reverse}
use Rattle.spv_scopes.specs.Shown.{frame_at}
use Rattle.spv_scopes.proofs.ShownLemmas.{frames_pushed}
use Rattle.spv_scopes.proofs.frames.push_calls.Goals as goal

pub outward-preserved : goal.outward-preserved
outward-preserved c =
    let at = frame_at c.args.module.now c.args.tables.now c.args.real in
    frames_pushed at (reverse c.args.calls.now) c.outward.number c.in-Some.linked c.in_ok-frame_at.field-0 c.outward.frames.items c.push.new.self.items _ c.in-Some.ensures.calls c.in_ok-frame_at.ensures c.in_ok-push.ensures.items c.outward.invariant

pub returns : goal.returns
returns c =
    let frames = c.outward.frames.items in
    let at = frame_at c.args.module.now c.args.tables.now c.args.real in
    sym (ap (λ places. frames ++ map at places) c.in_default.ensures.calls ∙ append-nil frames) ∙ c.outward.invariant
