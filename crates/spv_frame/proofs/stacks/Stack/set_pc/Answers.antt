use Rattle.std.proofs.Common.{◌≡◌, ◌∙◌, ◌-◌, ◌<◌, ◌≤◌, ℕ, Some, length, ap, sym, arith}
use Rattle.std.specs.Option.{option_map}
use Rattle.std.specs.Prelude.{Option}
use Rattle.spv_frame.specs.Frames.{Held}
use Rattle.spv_frame.specs.Stacks.{Stacked}
use Rattle.spv_frame.proofs.StackLemmas.{after_is, not_none, top_was}
use Rattle.spv_frame.proofs.stacks.Stack.set_pc.Goals as goal

pub returns : goal.returns
returns c =
    let some : 1 ≤ length c.args.self.now.frames = not_none c.args.self.now.frames c.requires in
    let same : length c.self.inside.frames.items ≡ length c.args.self.now.frames = ap (λ (s : Stacked). length s.frames) c.self.view_is in
    let count = c.len-top.ensures in
    let last : c.len-top.result - 1 ≡ length c.self.inside.frames.items - 1 = omega arith in
    let within : c.len-top.result - 1 < length c.self.inside.frames.items = omega arith in
    record {
      after = after_is c.args.self.now c.self.inside.frames.items c.self.inside.room (c.len-top.result - 1) (λ f. record f { pc = c.args.pc }) c.index_mut.result.now c.set_pc.new.self c.self.view_is last within c.index_mut.ensures.value c.set_pc.ensures.after;
      handed = ap (λ (o : Option Held). option_map (λ (f : Held). f.pc) o) (top_was c.args.self.now c.self.inside.frames.items c.self.inside.room (c.len-top.result - 1) c.index_mut.result.now c.self.view_is last within c.index_mut.ensures.value) ∙ ap (λ (m : ℕ). Some m) (sym c.set_pc.ensures.handed);
    }
