use Rattle.std.proofs.Common.{◌<◌, length, subst, sym}
use Rattle.spv_mem.specs.Memory.{AreVariables, HasRoom}
use Rattle.spv_state.specs.State.{State}
use Rattle.spv_state.proofs.ChangeLemmas.{add_frame, inside, pushed_bounded, put_bounded, stack_at}
use Rattle.spv_state.proofs.whole.Whole.enter.Goals as goal

pub give_back-requires : goal.give_back-requires
give_back-requires c =
    let k = c.index_mut.result.now in
    c.requires.room k (stack_at c.args.i k c.self.view_is (inside c.self.view_is c.requires.stacks) c.index_mut.ensures.value)

pub give_back_locals-requires-clause-inside : goal.give_back_locals-requires-clause-inside
give_back_locals-requires-clause-inside c = subst (λ (s : State). c.args.i < length s.memory.locals) (sym c.self.view_is) c.requires.levels

pub give_back_locals-requires-clause-room : goal.give_back_locals-requires-clause-room
give_back_locals-requires-clause-room c = subst (λ (s : State). HasRoom s.memory c.args.i) (sym c.self.view_is) c.requires.level

pub give_back_locals-requires-clause-may : goal.give_back_locals-requires-clause-may
give_back_locals-requires-clause-may c = subst (λ (s : State). ∥ AreVariables s.memory.types s.memory.targets c.args.locals ∥₁) (sym c.self.view_is) c.requires.variables

pub invariant_of-self : goal.invariant_of-self
invariant_of-self c =
    let w = c.self.inside in
    let k = c.index_mut.result.now in
    let there = inside c.self.view_is c.requires.stacks in (
      c.self.invariant.0,
      put_bounded w.stacks.items c.args.i k c.give_back.new.self there c.index_mut.ensures.value c.self.invariant.1
          (pushed_bounded c.args.frame k c.give_back.new.self c.give_back.ensures (c.requires.room k (stack_at c.args.i k c.self.view_is there c.index_mut.ensures.value))),
    )

pub returns : goal.returns
returns c =
    let w = c.self.inside in
    add_frame w.plans w.memory c.give_back_locals.new.self w.stacks.items w.statuses c.args.self.now c.args.i c.index_mut.result.now c.give_back.new.self c.args.frame c.args.locals c.self.view_is
    (inside c.self.view_is c.requires.stacks) c.index_mut.ensures.value c.give_back.ensures c.give_back_locals.ensures
