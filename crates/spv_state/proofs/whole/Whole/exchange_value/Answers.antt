use Rattle.std.proofs.Common.{Option, length, subst, sym}
use Rattle.std.specs.Option.{IsSomeAnd}
use Rattle.spv_frame.specs.Frames.{Held as Frame}
use Rattle.spv_frame.specs.Numbers.{HasCells, HoldsValue, with_value}
use Rattle.spv_frame.specs.Registers.{marked}
use Rattle.spv_types.specs.Rows.{leaves}
use Rattle.spv_state.proofs.ChangeLemmas.{inside, put_bounded, put_stack, top_bounded}
use Rattle.spv_state.proofs.UndoingLemmas.{top_is}
use Rattle.spv_state.proofs.whole.Whole.exchange_value.Goals as goal

pub exchange_numbered-requires : goal.exchange_numbered-requires
exchange_numbered-requires c =
    let w = c.self.inside in
    subst (λ (o : Option Frame). IsSomeAnd o (HasCells c.args.number (length (leaves c.args.value.now)))) (top_is w.plans w.memory w.stacks.items w.statuses c.args.self.now c.args.i c.index_mut.result.now c.self.view_is (inside c.self.view_is c.requires.inv) c.index_mut.ensures.value) c.requires.register

pub invariant_of-self : goal.invariant_of-self
invariant_of-self c =
    let w = c.self.inside in (
      c.self.invariant.0,
      put_bounded w.stacks.items c.args.i c.index_mut.result.now c.exchange_numbered.new.self (inside c.self.view_is c.requires.inv) c.index_mut.ensures.value c.self.invariant.1
          (top_bounded (with_value c.args.number (marked c.args.value.now c.args.has.now)) c.index_mut.result.now c.exchange_numbered.new.self c.exchange_numbered.ensures.after),
    )

pub returns-clause-after : goal.returns-clause-after
returns-clause-after c =
    let w = c.self.inside in
    put_stack w.plans w.memory w.stacks.items w.statuses c.args.self.now c.args.i c.index_mut.result.now c.exchange_numbered.new.self (with_value c.args.number (marked c.args.value.now c.args.has.now)) c.self.view_is (inside c.self.view_is c.requires.inv) c.index_mut.ensures.value c.exchange_numbered.ensures.after

pub returns-clause-handed : goal.returns-clause-handed
returns-clause-handed c =
    let w = c.self.inside in
    subst (λ (o : Option Frame). IsSomeAnd o (HoldsValue c.args.number (marked c.exchange_numbered.new.value c.exchange_numbered.new.has))) (sym (top_is w.plans w.memory w.stacks.items w.statuses c.args.self.now c.args.i c.index_mut.result.now c.self.view_is (inside c.self.view_is c.requires.inv) c.index_mut.ensures.value)) c.exchange_numbered.ensures.handed
