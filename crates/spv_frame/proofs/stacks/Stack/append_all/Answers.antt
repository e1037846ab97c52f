use Rattle.std.proofs.Common.{◌≡◌, ◌-◌, ◌<◌, ◌≤◌, ◌++◌, length, ap, arith}
use Rattle.spv_frame.specs.Stacks.{Stacked}
use Rattle.spv_frame.proofs.StackLemmas.{after_is, kept_is, not_none}
use Rattle.spv_frame.proofs.stacks.Stack.append_all.Goals as goal
use Rattle.std.proofs.lemmas.Result.{on_ok_weaker, on_err_weaker}

pub returns : goal.returns
returns c =
    let some : 1 ≤ length c.args.self.now.frames = not_none c.args.self.now.frames c.requires in
    let same : length c.self.inside.frames.items ≡ length c.args.self.now.frames = ap (λ (s : Stacked). length s.frames) c.self.view_is in
    let count = c.len-top.ensures in
    let last : c.len-top.result - 1 ≡ length c.self.inside.frames.items - 1 = omega arith in
    let within : c.len-top.result - 1 < length c.self.inside.frames.items = omega arith in
    record {
      ok =
          on_ok_weaker {P = (c.append_all.new.self ≡ record c.index_mut.result.now { events = c.index_mut.result.now.events ++ c.args.events.items })} c.append_all.result
          (λ made. after_is c.args.self.now c.self.inside.frames.items c.self.inside.room (c.len-top.result - 1) (λ f. record f { events = f.events ++ c.args.events.items }) c.index_mut.result.now c.append_all.new.self c.self.view_is last within c.index_mut.ensures.value made) c.append_all.ensures.ok;
      err = on_err_weaker {P = (c.append_all.new.self ≡ c.index_mut.result.now)} c.append_all.result (λ made. kept_is c.args.self.now c.self.inside.frames.items c.self.inside.room (c.len-top.result - 1) c.index_mut.result.now c.append_all.new.self c.self.view_is within c.index_mut.ensures.value made) c.append_all.ensures.err;
    }
