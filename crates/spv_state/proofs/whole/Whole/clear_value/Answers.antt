use Rattle.std.proofs.Common.{◌<◌, None, Option, length, subst}
use Rattle.std.specs.Option.{IsSomeAnd}
use Rattle.spv_frame.specs.Frames.{Held as Frame}
use Rattle.spv_frame.specs.Numbers.{with_value}
use Rattle.spv_state.proofs.ChangeLemmas.{inside, put_bounded, put_stack, top_bounded}
use Rattle.spv_state.proofs.UndoingLemmas.{top_is}
use Rattle.spv_state.proofs.whole.Whole.clear_value.Goals as goal

pub clear_numbered-requires : goal.clear_numbered-requires
clear_numbered-requires c =
    let w = c.self.inside in
    subst (λ (o : Option Frame). IsSomeAnd o (λ f. c.args.number < length f.plan.values)) (top_is w.plans w.memory w.stacks.items w.statuses c.args.self.now c.args.i c.index_mut.result.now c.self.view_is (inside c.self.view_is c.requires.inv) c.index_mut.ensures.value) c.requires.register

pub invariant_of-self : goal.invariant_of-self
invariant_of-self c =
    let w = c.self.inside in (
      c.self.invariant.0,
      put_bounded w.stacks.items c.args.i c.index_mut.result.now c.clear_numbered.new.self (inside c.self.view_is c.requires.inv) c.index_mut.ensures.value c.self.invariant.1
          (top_bounded (with_value c.args.number None) c.index_mut.result.now c.clear_numbered.new.self c.clear_numbered.ensures),
    )

pub returns : goal.returns
returns c =
    let w = c.self.inside in
    put_stack w.plans w.memory w.stacks.items w.statuses c.args.self.now c.args.i c.index_mut.result.now c.clear_numbered.new.self (with_value c.args.number None) c.self.view_is (inside c.self.view_is c.requires.inv) c.index_mut.ensures.value c.clear_numbered.ensures
