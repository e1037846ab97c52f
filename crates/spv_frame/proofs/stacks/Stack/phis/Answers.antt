use Rattle.std.proofs.Common.{◌≡◌, ◌-◌, ◌<◌, ◌≤◌, map, length, ap, arith}
use Rattle.std.specs.List.{AllZip}
use Rattle.spv_frame.specs.Contents.{AllSuit, content, held}
use Rattle.spv_frame.specs.Phis.{IsPhi, with_phis}
use Rattle.spv_frame.specs.Stacks.{Stacked}
use Rattle.spv_frame.proofs.StackLemmas.{after_is, handed_is, kept_is, some_frame}
use Rattle.spv_frame.proofs.stacks.Stack.phis.Goals as goal
use Rattle.std.proofs.lemmas.Result.{on_ok_weaker, on_err_weaker, IfOk-weaker}

pub returns : goal.returns
returns c =
    let some : 1 ≤ length c.args.self.now.frames = some_frame c.args.self.now.frames (λ f. AllZip (IsPhi f.plan.values) c.args.slots.now c.args.sources.now) c.requires.phis in
    let same : length c.self.inside.frames.items ≡ length c.args.self.now.frames = ap (λ (s : Stacked). length s.frames) c.self.view_is in
    let count = c.len-top.ensures in
    let last : c.len-top.result - 1 ≡ length c.self.inside.frames.items - 1 = omega arith in
    let within : c.len-top.result - 1 < length c.self.inside.frames.items = omega arith in
    record {
      ok =
          on_ok_weaker {P = (c.phis.new.self ≡ with_phis c.args.slots.now c.args.sources.now c.index_mut.result.now)} c.phis.result
          (λ made. after_is c.args.self.now c.self.inside.frames.items c.self.inside.room (c.len-top.result - 1) (with_phis c.args.slots.now c.args.sources.now) c.index_mut.result.now c.phis.new.self c.self.view_is last within c.index_mut.ensures.value made) c.phis.ensures.ok;
      handed =
          IfOk-weaker c.phis.result (λ olds. map content olds.items ≡ map (held c.index_mut.result.now) c.args.slots.now) _
          (λ olds was. handed_is c.args.self.now c.self.inside.frames.items c.self.inside.room (c.len-top.result - 1) c.index_mut.result.now (λ f. map content olds.items ≡ map (held f) c.args.slots.now) c.self.view_is last within c.index_mut.ensures.value was) c.phis.ensures.handed;
      suit =
          IfOk-weaker c.phis.result (λ olds. AllSuit c.index_mut.result.now.plan.values c.args.slots.now olds.items) _
          (λ olds suit. handed_is c.args.self.now c.self.inside.frames.items c.self.inside.room (c.len-top.result - 1) c.index_mut.result.now (λ f. AllSuit f.plan.values c.args.slots.now olds.items) c.self.view_is last within c.index_mut.ensures.value suit) c.phis.ensures.suit;
      err =
          on_err_weaker {P = (c.phis.new.self ≡ c.index_mut.result.now)} c.phis.result
          (λ made. kept_is c.args.self.now c.self.inside.frames.items c.self.inside.room (c.len-top.result - 1) c.index_mut.result.now c.phis.new.self c.self.view_is within c.index_mut.ensures.value made) c.phis.ensures.err;
    }
