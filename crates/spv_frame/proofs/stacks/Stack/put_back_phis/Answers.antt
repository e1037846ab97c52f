use Rattle.std.proofs.Common.{◌≡◌, ◌-◌, ◌<◌, ◌≤◌, map, length, ap, arith}
use Rattle.spv_frame.specs.Contents.{AllSuit, content, with_contents}
use Rattle.spv_frame.specs.Stacks.{Stacked}
use Rattle.spv_frame.proofs.StackLemmas.{after_is, some_frame}
use Rattle.spv_frame.proofs.stacks.Stack.put_back_phis.Goals as goal

pub returns : goal.returns
returns c =
    let some : 1 ≤ length c.args.self.now.frames = some_frame c.args.self.now.frames (λ f. AllSuit f.plan.values c.args.slots.now c.args.olds.items) c.requires.suit in
    let same : length c.self.inside.frames.items ≡ length c.args.self.now.frames = ap (λ (s : Stacked). length s.frames) c.self.view_is in
    let count = c.len-top.ensures in
    let last : c.len-top.result - 1 ≡ length c.self.inside.frames.items - 1 = omega arith in
    let within : c.len-top.result - 1 < length c.self.inside.frames.items = omega arith in
    after_is c.args.self.now c.self.inside.frames.items c.self.inside.room (c.len-top.result - 1) (with_contents c.args.slots.now (map content c.args.olds.items)) c.index_mut.result.now c.put_back_phis.new.self c.self.view_is last within c.index_mut.ensures.value c.put_back_phis.ensures
