use Rattle.std.proofs.Common.{◌≡◌, ◌-◌, ◌<◌, ◌≤◌, None, length, ap, arith}
use Rattle.spv_frame.specs.Numbers.{with_value}
use Rattle.spv_frame.specs.Stacks.{Stacked}
use Rattle.spv_frame.proofs.StackLemmas.{after_is, some_frame}
use Rattle.spv_frame.proofs.stacks.Stack.clear_numbered.Goals as goal

pub returns : goal.returns
returns c =
    let some : 1 ≤ length c.args.self.now.frames = some_frame c.args.self.now.frames (λ f. c.args.number < length f.plan.values) c.requires in
    let same : length c.self.inside.frames.items ≡ length c.args.self.now.frames = ap (λ (s : Stacked). length s.frames) c.self.view_is in
    let count = c.len-top.ensures in
    let last : c.len-top.result - 1 ≡ length c.self.inside.frames.items - 1 = omega arith in
    let within : c.len-top.result - 1 < length c.self.inside.frames.items = omega arith in
    after_is c.args.self.now c.self.inside.frames.items c.self.inside.room (c.len-top.result - 1) (with_value c.args.number None) c.index_mut.result.now c.clear_numbered.new.self c.self.view_is last within c.index_mut.ensures.value c.clear_numbered.ensures
