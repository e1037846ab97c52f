use Rattle.spv_state.specs.State.{with_pc}
use Rattle.std.proofs.Common.{◌≡◌, Option, Some, option_map, subst, sym}
use Rattle.spv_frame.specs.Frames.{Held as Frame}
use Rattle.spv_state.proofs.ChangeLemmas.{inside, put_bounded, put_stack, some_top, top_bounded}
use Rattle.spv_state.proofs.UndoingLemmas.{top_is}
use Rattle.spv_state.proofs.whole.Whole.set_pc.Goals as goal

pub set_pc-requires : goal.set_pc-requires
set_pc-requires c =
    let w = c.self.inside in
    some_top w.plans w.memory w.stacks.items w.statuses c.args.self.now c.args.i c.index_mut.result.now c.self.view_is (inside c.self.view_is c.requires.inside) c.index_mut.ensures.value c.requires.frames

pub invariant_of-self : goal.invariant_of-self
invariant_of-self c =
    let w = c.self.inside in (
      c.self.invariant.0,
      put_bounded w.stacks.items c.args.i c.index_mut.result.now c.set_pc.new.self (inside c.self.view_is c.requires.inside) c.index_mut.ensures.value c.self.invariant.1
          (top_bounded (with_pc c.args.pc) c.index_mut.result.now c.set_pc.new.self c.set_pc.ensures.after),
    )

pub returns-clause-after : goal.returns-clause-after
returns-clause-after c =
    let w = c.self.inside in
    put_stack w.plans w.memory w.stacks.items w.statuses c.args.self.now c.args.i c.index_mut.result.now c.set_pc.new.self (with_pc c.args.pc) c.self.view_is (inside c.self.view_is c.requires.inside)
    c.index_mut.ensures.value c.set_pc.ensures.after

pub returns-clause-handed : goal.returns-clause-handed
returns-clause-handed c =
    let w = c.self.inside in
    subst (λ (o : Option Frame). option_map (λ (f : Frame). f.pc) o ≡ Some c.set_pc.result)
    (sym (top_is w.plans w.memory w.stacks.items w.statuses c.args.self.now c.args.i c.index_mut.result.now c.self.view_is (inside c.self.view_is c.requires.inside) c.index_mut.ensures.value)) c.set_pc.ensures.handed
