use Rattle.std.proofs.Common.{◌<◌, length, subst, sym}
use Rattle.spv_mem.specs.Memory.{AreVariables}
use Rattle.spv_state.specs.Rooms.{HasLocals}
use Rattle.spv_state.specs.State.{State}
use Rattle.spv_state.proofs.ChangeLemmas.{drop_frame, inside, left_bounded, left_is, locals_left, put_bounded, some_top}
use Rattle.spv_state.proofs.UndoingLemmas.{frame_some, locals_some, put_top_back, variables_left}
use Rattle.spv_state.proofs.whole.Whole.take_frame.Goals as goal

pub both-requires-clause-frame : goal.both-requires-clause-frame
both-requires-clause-frame c =
    let w = c.self.inside in
    frame_some c.index_mut.result.now c.leave-frame.new.self c.leave-frame.result
    (some_top w.plans w.memory w.stacks.items w.statuses c.args.self.now c.args.i c.index_mut.result.now c.self.view_is (inside c.self.view_is c.requires.stacks) c.index_mut.ensures.value c.requires.frames)
    c.leave-frame.ensures.frames

pub both-requires-clause-locals : goal.both-requires-clause-locals
both-requires-clause-locals c =
    let w = c.self.inside in
    locals_some w.memory c.leave_locals-locals.new.self c.args.i c.leave_locals-locals.result
    (subst (λ (s : State). c.args.i < length s.memory.locals) (sym c.self.view_is) c.requires.locals)
    (subst (λ (s : State). HasLocals s c.args.i) (sym c.self.view_is) c.requires.variables) c.leave_locals-locals.ensures.left

pub invariant_of-self : goal.invariant_of-self
invariant_of-self c =
    let w = c.self.inside in
    let left = left_is c.index_mut.result.now c.leave-frame.new.self c.leave-frame.result c.leave-frame.ensures.room c.leave-frame.ensures.frames in (
      c.self.invariant.0,
      put_bounded w.stacks.items c.args.i c.index_mut.result.now c.leave-frame.new.self (inside c.self.view_is c.requires.stacks) c.index_mut.ensures.value c.self.invariant.1
          (left_bounded c.index_mut.result.now c.leave-frame.new.self left),
    )

pub returns-clause-after : goal.returns-clause-after
returns-clause-after c =
    let w = c.self.inside in
    let left = left_is c.index_mut.result.now c.leave-frame.new.self c.leave-frame.result c.leave-frame.ensures.room c.leave-frame.ensures.frames in
    drop_frame w.plans w.memory c.leave_locals-locals.new.self w.stacks.items w.statuses c.args.self.now c.args.i c.index_mut.result.now c.leave-frame.new.self c.self.view_is
    (inside c.self.view_is c.requires.stacks) c.index_mut.ensures.value left (locals_left w.memory c.leave_locals-locals.new.self c.args.i c.leave_locals-locals.result c.leave_locals-locals.ensures.left)

pub returns-clause-back : goal.returns-clause-back
returns-clause-back c =
    let w = c.self.inside in
    put_top_back w.plans w.memory c.leave_locals-locals.new.self w.stacks.items w.statuses c.args.self.now c.args.i c.index_mut.result.now c.leave-frame.new.self c.leave-frame.result c.leave_locals-locals.result c.both.result.0 c.both.result.1
    c.self.view_is (inside c.self.view_is c.requires.stacks) c.index_mut.ensures.value c.leave-frame.ensures.room c.leave-frame.ensures.frames c.leave_locals-locals.ensures.left c.both.ensures.frame c.both.ensures.locals

pub returns-clause-variables : goal.returns-clause-variables
returns-clause-variables c =
    subst (λ (s : State). ∥ AreVariables s.memory.types s.memory.targets c.both.result.1 ∥₁) c.self.view_is
    (variables_left c.self.inside.memory c.leave_locals-locals.result c.both.result.1 c.both.ensures.locals c.leave_locals-locals.ensures.variables)
