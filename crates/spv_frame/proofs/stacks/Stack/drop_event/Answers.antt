use Rattle.std.proofs.Common.{◌≡◌, ◌≢◌, ◌-◌, ◌<◌, ◌≤◌, [], length, ap, arith}
use Rattle.spv_frame.specs.Stacks.{Stacked}
use Rattle.spv_frame.proofs.StackLemmas.{some_frame, taken_is}
use Rattle.spv_frame.proofs.stacks.Stack.drop_event.Goals as goal

pub returns : goal.returns
returns c =
    let some : 1 ≤ length c.args.self.now.frames = some_frame c.args.self.now.frames (λ f. f.events ≢ []) c.requires in
    let same : length c.self.inside.frames.items ≡ length c.args.self.now.frames = ap (λ (s : Stacked). length s.frames) c.self.view_is in
    let count = c.len-top.ensures in
    let last : c.len-top.result - 1 ≡ length c.self.inside.frames.items - 1 = omega arith in
    let within : c.len-top.result - 1 < length c.self.inside.frames.items = omega arith in
    taken_is c.args.self.now c.self.inside.frames.items c.self.inside.room (c.len-top.result - 1) c.index_mut.result.now c.drop_event.new.self c.drop_event.result c.self.view_is last within c.index_mut.ensures.value c.drop_event.ensures.after c.drop_event.ensures.handed
