use Rattle.std.proofs.Common.{Option, subst, sym}
use Rattle.std.specs.Option.{IsSomeAnd}
use Rattle.spv_frame.specs.Frames.{Held as Frame}
use Rattle.spv_frame.specs.Numbers.{HasPointer, HoldsPointer, with_pointer}
use Rattle.spv_state.proofs.ChangeLemmas.{inside, put_bounded, put_stack, top_bounded}
use Rattle.spv_state.proofs.UndoingLemmas.{top_is}
use Rattle.spv_state.proofs.whole.Whole.exchange_pointer.Goals as goal

pub exchange_numbered_pointer-requires : goal.exchange_numbered_pointer-requires
exchange_numbered_pointer-requires c =
    let w = c.self.inside in
    subst (λ (o : Option Frame). IsSomeAnd o (HasPointer c.args.number)) (top_is w.plans w.memory w.stacks.items w.statuses c.args.self.now c.args.i c.index_mut.result.now c.self.view_is (inside c.self.view_is c.requires.inv) c.index_mut.ensures.value) c.requires.register

pub invariant_of-self : goal.invariant_of-self
invariant_of-self c =
    let w = c.self.inside in (
      c.self.invariant.0,
      put_bounded w.stacks.items c.args.i c.index_mut.result.now c.exchange_numbered_pointer.new.self (inside c.self.view_is c.requires.inv) c.index_mut.ensures.value c.self.invariant.1
          (top_bounded (with_pointer c.args.number c.args.pointer.now) c.index_mut.result.now c.exchange_numbered_pointer.new.self c.exchange_numbered_pointer.ensures.after),
    )

pub returns-clause-after : goal.returns-clause-after
returns-clause-after c =
    let w = c.self.inside in
    put_stack w.plans w.memory w.stacks.items w.statuses c.args.self.now c.args.i c.index_mut.result.now c.exchange_numbered_pointer.new.self (with_pointer c.args.number c.args.pointer.now) c.self.view_is (inside c.self.view_is c.requires.inv) c.index_mut.ensures.value c.exchange_numbered_pointer.ensures.after

pub returns-clause-handed : goal.returns-clause-handed
returns-clause-handed c =
    let w = c.self.inside in
    subst (λ (o : Option Frame). IsSomeAnd o (HoldsPointer c.args.number c.exchange_numbered_pointer.new.pointer)) (sym (top_is w.plans w.memory w.stacks.items w.statuses c.args.self.now c.args.i c.index_mut.result.now c.self.view_is (inside c.self.view_is c.requires.inv) c.index_mut.ensures.value)) c.exchange_numbered_pointer.ensures.handed
