use Rattle.std.proofs.Common.{◌≡◌, ◌-◌, ◌<◌, ◌≤◌, length, ap, arith}
use Rattle.spv_frame.specs.Numbers.{HasPointer, HoldsPointer, with_pointer}
use Rattle.spv_frame.specs.Stacks.{Stacked}
use Rattle.spv_frame.proofs.StackLemmas.{after_is, handed_is, some_frame}
use Rattle.spv_frame.proofs.stacks.Stack.exchange_numbered_pointer.Goals as goal

pub returns : goal.returns
returns c =
    let some : 1 ≤ length c.args.self.now.frames = some_frame c.args.self.now.frames (HasPointer c.args.number) c.requires in
    let same : length c.self.inside.frames.items ≡ length c.args.self.now.frames = ap (λ (s : Stacked). length s.frames) c.self.view_is in
    let count = c.len-top.ensures in
    let last : c.len-top.result - 1 ≡ length c.self.inside.frames.items - 1 = omega arith in
    let within : c.len-top.result - 1 < length c.self.inside.frames.items = omega arith in
    record {
      after = after_is c.args.self.now c.self.inside.frames.items c.self.inside.room (c.len-top.result - 1) (with_pointer c.args.number c.args.pointer.now) c.index_mut.result.now c.exchange_numbered_pointer.new.self c.self.view_is last within c.index_mut.ensures.value c.exchange_numbered_pointer.ensures.after;
      handed = handed_is c.args.self.now c.self.inside.frames.items c.self.inside.room (c.len-top.result - 1) c.index_mut.result.now (HoldsPointer c.args.number c.exchange_numbered_pointer.new.pointer) c.self.view_is last within c.index_mut.ensures.value c.exchange_numbered_pointer.ensures.handed;
    }
