use Rattle.std.proofs.Common.{◌∙◌, ◌++◌, List, Some, sym, ap}
use Rattle.spv_dbg.specs.declared.frames.ShownFrame.{ShownFrame}
use Rattle.spv_scopes.specs.Shown.{frames_at, shown_below}
use Rattle.spv_scopes.proofs.ShownLemmas.{below_more}
use Rattle.spv_scopes.proofs.stacks.shown_of_call.Goals as goal

pub returns : goal.returns
unfolding shown_below
returns c =
    let m = c.args.module.now in
    let t = c.args.tables.now in
    let spots = c.args.lines.now.spots in
    let frames = c.in_ok-push_frames.ensures ∙ ap (λ (l : List ShownFrame). l ++ frames_at m t spots c.in-Some.real) c.new-frames.ensures.items in
    below_more m t spots c.args.stack.now.frames c.args.depth (Some c.in-Some.real) c.in-Some.ensures
    ∙ sym (ap (λ (l : List ShownFrame). l ++ shown_below m t spots c.args.depth c.args.stack.now.frames) frames)
