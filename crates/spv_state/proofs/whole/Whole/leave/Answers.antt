use Rattle.spv_state.proofs.ChangeLemmas.{drop_frame, inside, left_bounded, left_is, locals_left, put_bounded}
use Rattle.spv_state.proofs.whole.Whole.leave.Goals as goal

pub invariant_of-self : goal.invariant_of-self
invariant_of-self c =
    let w = c.self.inside in
    let left = left_is c.index_mut.result.now c.leave-frame.new.self c.leave-frame.result c.leave-frame.ensures.room c.leave-frame.ensures.frames in (
      c.self.invariant.0,
      put_bounded w.stacks.items c.args.i c.index_mut.result.now c.leave-frame.new.self (inside c.self.view_is c.requires.stacks) c.index_mut.ensures.value c.self.invariant.1
          (left_bounded c.index_mut.result.now c.leave-frame.new.self left),
    )

pub returns : goal.returns
returns c =
    let w = c.self.inside in
    let left = left_is c.index_mut.result.now c.leave-frame.new.self c.leave-frame.result c.leave-frame.ensures.room c.leave-frame.ensures.frames in
    drop_frame w.plans w.memory c.leave_locals-locals.new.self w.stacks.items w.statuses c.args.self.now c.args.i c.index_mut.result.now c.leave-frame.new.self c.self.view_is
    (inside c.self.view_is c.requires.stacks) c.index_mut.ensures.value left (locals_left w.memory c.leave_locals-locals.new.self c.args.i c.leave_locals-locals.result c.leave_locals-locals.ensures.left)
