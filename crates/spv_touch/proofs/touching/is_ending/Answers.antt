use Rattle.std.proofs.Common.{◌≡◌, ◌∙◌, true, length, ap}
use Rattle.spv_touch.proofs.ReadyLemmas.{ending}
use Rattle.spv_touch.proofs.touching.is_ending.Goals as goal

pub returns-then-finished_count : goal.returns-then-finished_count
returns-then-finished_count c =
    let counts : c.args.m.now.setup.finished_count ≡ true = cc in
    ending c.args.m.now c.args.whole.now c.args.inv c.args.m.now.setup.finished_count c.depth.result counts (c.depth.ensures ∙ ap length c.stack.ensures.frames)
