use Rattle.std.proofs.Common.{◌≡◌, ◌-◌, ◌<◌, ◌≤◌, length, ap, arith}
use Rattle.spv_types.specs.Rows.{leaves}
use Rattle.spv_frame.specs.Numbers.{HasCells, HoldsValue, with_value}
use Rattle.spv_frame.specs.Registers.{marked}
use Rattle.spv_frame.specs.Stacks.{Stacked}
use Rattle.spv_frame.proofs.StackLemmas.{after_is, handed_is, some_frame}
use Rattle.spv_frame.proofs.stacks.Stack.exchange_numbered.Goals as goal

pub returns : goal.returns
returns c =
    let some : 1 ≤ length c.args.self.now.frames = some_frame c.args.self.now.frames (HasCells c.args.number (length (leaves c.args.value.now))) c.requires in
    let same : length c.self.inside.frames.items ≡ length c.args.self.now.frames = ap (λ (s : Stacked). length s.frames) c.self.view_is in
    let count = c.len-top.ensures in
    let last : c.len-top.result - 1 ≡ length c.self.inside.frames.items - 1 = omega arith in
    let within : c.len-top.result - 1 < length c.self.inside.frames.items = omega arith in
    record {
      after = after_is c.args.self.now c.self.inside.frames.items c.self.inside.room (c.len-top.result - 1) (with_value c.args.number (marked c.args.value.now c.args.has.now)) c.index_mut.result.now c.exchange_numbered.new.self c.self.view_is last within c.index_mut.ensures.value c.exchange_numbered.ensures.after;
      handed = handed_is c.args.self.now c.self.inside.frames.items c.self.inside.room (c.len-top.result - 1) c.index_mut.result.now (HoldsValue c.args.number (marked c.exchange_numbered.new.value c.exchange_numbered.new.has)) c.self.view_is last within c.index_mut.ensures.value c.exchange_numbered.ensures.handed;
    }
