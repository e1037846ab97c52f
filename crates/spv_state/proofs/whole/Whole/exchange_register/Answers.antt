use Rattle.std.proofs.Common.{◌≡◌, None, Option, subst, sym}
use Rattle.std.specs.Option.{IsSomeAnd, MatchOption}
use Rattle.spv_frame.specs.Frames.{Held as Frame}
use Rattle.spv_frame.specs.Registers.{ids, marked, number_of}
use Rattle.spv_state.specs.Slots.{IsExchanged}
use Rattle.spv_state.proofs.ChangeLemmas.{inside, put_bounded}
use Rattle.spv_state.proofs.NumberLemmas.{exchanged_bounded, exchanged_state}
use Rattle.spv_state.proofs.UndoingLemmas.{top_is}
use Rattle.spv_state.proofs.whole.Whole.exchange_register.Goals as goal

pub invariant_of-self : goal.invariant_of-self
invariant_of-self c =
    let w = c.self.inside in (
      c.self.invariant.0,
      put_bounded w.stacks.items c.args.i c.index_mut-stack.result.now c.exchange_in.new.stack (inside c.self.view_is c.requires.inv) c.index_mut-stack.ensures.value c.self.invariant.1
          (exchanged_bounded c.exchange_in.result c.index_mut-stack.result.now c.exchange_in.new.stack (marked c.args.row.now c.args.has.now) c.exchange_in.ensures.after),
    )

pub returns-clause-after : goal.returns-clause-after
returns-clause-after c =
    let w = c.self.inside in
    exchanged_state c.exchange_in.result w.plans w.memory w.stacks.items w.statuses c.args.self.now c.args.i c.index_mut-stack.result.now c.exchange_in.new.stack (marked c.args.row.now c.args.has.now) c.self.view_is
    (inside c.self.view_is c.requires.inv) c.index_mut-stack.ensures.value c.exchange_in.ensures.after

pub returns-clause-register : goal.returns-clause-register
returns-clause-register c =
    let w = c.self.inside in
    subst (λ (o : Option Frame). IsSomeAnd o (λ f. MatchOption c.exchange_in.result (number_of c.args.id (ids f.plan.values) ≡ None) (λ n. IsExchanged c.args.id n c.args.row.now c.exchange_in.new.row c.exchange_in.new.has f)))
    (sym (top_is w.plans w.memory w.stacks.items w.statuses c.args.self.now c.args.i c.index_mut-stack.result.now c.self.view_is (inside c.self.view_is c.requires.inv) c.index_mut-stack.ensures.value)) c.exchange_in.ensures.register
