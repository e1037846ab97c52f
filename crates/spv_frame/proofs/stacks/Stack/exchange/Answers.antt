use Rattle.std.proofs.Common.{◌≡◌, ◌-◌, ◌<◌, ◌≤◌, Some, length, ap, arith}
use Rattle.spv_base.specs.Entries.{reads}
use Rattle.spv_frame.specs.Frames.{with_value_under}
use Rattle.spv_frame.specs.Registers.{IsSlotOf, marked}
use Rattle.spv_frame.specs.Stacks.{Stacked}
use Rattle.spv_frame.proofs.StackLemmas.{after_is, handed_is, some_frame}
use Rattle.spv_frame.proofs.stacks.Stack.exchange.Goals as goal

pub returns : goal.returns
returns c =
    let some : 1 ≤ length c.args.self.now.frames = some_frame c.args.self.now.frames (λ f. IsSlotOf f.plan.values c.args.slot.now) c.requires.slot in
    let same : length c.self.inside.frames.items ≡ length c.args.self.now.frames = ap (λ (s : Stacked). length s.frames) c.self.view_is in
    let count = c.len-top.ensures in
    let last : c.len-top.result - 1 ≡ length c.self.inside.frames.items - 1 = omega arith in
    let within : c.len-top.result - 1 < length c.self.inside.frames.items = omega arith in
    record {
      after = after_is c.args.self.now c.self.inside.frames.items c.self.inside.room (c.len-top.result - 1) (with_value_under c.args.slot.now.id (marked c.args.value.now c.args.has.now)) c.index_mut.result.now c.exchange.new.self c.self.view_is last within c.index_mut.ensures.value c.exchange.ensures.after;
      handed = handed_is c.args.self.now c.self.inside.frames.items c.self.inside.room (c.len-top.result - 1) c.index_mut.result.now (λ f. reads c.args.slot.now.id f.values ≡ Some (marked c.exchange.new.value c.exchange.new.has)) c.self.view_is last within c.index_mut.ensures.value c.exchange.ensures.handed;
      room = c.exchange.ensures.room;
    }
