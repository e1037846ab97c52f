use Rattle.std.proofs.Common.{◌≡◌}
use Rattle.std.proofs.lemmas.Result.{on_ok_weaker, on_err_weaker}
use Rattle.spv_state.specs.State.{append_event, on_frames}
use Rattle.spv_state.proofs.ChangeLemmas.{inside, put_bounded, put_stack, some_top}
use Rattle.spv_state.proofs.UndoingLemmas.{appended_bounded, stack_kept}
use Rattle.spv_state.proofs.whole.Whole.append.Goals as goal

pub append-requires : goal.append-requires
append-requires c =
    let w = c.self.inside in
    some_top w.plans w.memory w.stacks.items w.statuses c.args.self.now c.args.i c.index_mut.result.now c.self.view_is (inside c.self.view_is c.requires.inv) c.index_mut.ensures.value c.requires.frames

pub invariant_of-self : goal.invariant_of-self
invariant_of-self c =
    let w = c.self.inside in (
      c.self.invariant.0,
      put_bounded w.stacks.items c.args.i c.index_mut.result.now c.append.new.self (inside c.self.view_is c.requires.inv) c.index_mut.ensures.value c.self.invariant.1
          (appended_bounded c.append.result c.index_mut.result.now c.append.new.self c.args.event c.append.ensures.ok c.append.ensures.err),
    )

pub returns-clause-ok : goal.returns-clause-ok
returns-clause-ok c =
    let w = c.self.inside in
    on_ok_weaker {P = (c.append.new.self ≡ on_frames (append_event c.args.event) c.index_mut.result.now)} c.append.result
    (λ made. put_stack w.plans w.memory w.stacks.items w.statuses c.args.self.now c.args.i c.index_mut.result.now c.append.new.self (append_event c.args.event) c.self.view_is (inside c.self.view_is c.requires.inv)
    c.index_mut.ensures.value made) c.append.ensures.ok

pub returns-clause-err : goal.returns-clause-err
returns-clause-err c =
    let w = c.self.inside in
    on_err_weaker {P = (c.append.new.self ≡ c.index_mut.result.now)} c.append.result
    (λ same. stack_kept w.plans w.memory w.stacks.items w.statuses c.args.self.now c.args.i c.index_mut.result.now c.append.new.self c.self.view_is (inside c.self.view_is c.requires.inv) c.index_mut.ensures.value same) c.append.ensures.err
