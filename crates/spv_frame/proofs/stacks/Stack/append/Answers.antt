use Rattle.std.proofs.Common.{◌≡◌, ◌-◌, ◌<◌, ◌≤◌, ◌++◌, [], ◌∷◌, length, ap, arith}
use Rattle.spv_frame.specs.Stacks.{Stacked}
use Rattle.spv_frame.proofs.StackLemmas.{after_is, kept_is, not_none}
use Rattle.spv_frame.proofs.stacks.Stack.append.Goals as goal
use Rattle.std.proofs.lemmas.Result.{on_ok_weaker, on_err_weaker}

pub returns : goal.returns
returns c =
    let some : 1 ≤ length c.args.self.now.frames = not_none c.args.self.now.frames c.requires in
    let same : length c.self.inside.frames.items ≡ length c.args.self.now.frames = ap (λ (s : Stacked). length s.frames) c.self.view_is in
    let count = c.len-top.ensures in
    let last : c.len-top.result - 1 ≡ length c.self.inside.frames.items - 1 = omega arith in
    let within : c.len-top.result - 1 < length c.self.inside.frames.items = omega arith in
    record {
      ok =
          on_ok_weaker {P = (c.append.new.self ≡ record c.index_mut.result.now { events = c.index_mut.result.now.events ++ c.args.event ∷ [] })} c.append.result
          (λ made. after_is c.args.self.now c.self.inside.frames.items c.self.inside.room (c.len-top.result - 1) (λ f. record f { events = f.events ++ c.args.event ∷ [] }) c.index_mut.result.now c.append.new.self c.self.view_is last within c.index_mut.ensures.value made) c.append.ensures.ok;
      err = on_err_weaker {P = (c.append.new.self ≡ c.index_mut.result.now)} c.append.result (λ made. kept_is c.args.self.now c.self.inside.frames.items c.self.inside.room (c.len-top.result - 1) c.index_mut.result.now c.append.new.self c.self.view_is within c.index_mut.ensures.value made) c.append.ensures.err;
    }
