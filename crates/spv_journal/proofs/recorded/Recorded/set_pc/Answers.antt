use Rattle.std.proofs.Common.{◌≡◌, ◌∙◌, ◌<◌, ℕ, IsSome, Some, length, option_map, arith, rules, subst, sym}
use Rattle.spv_frame.specs.Frames.{Held as Frame}
use Rattle.spv_state.specs.State.{State, on_frame, top_of, with_pc}
use Rattle.spv_journal.specs.Events.{Kept}
use Rattle.spv_journal.specs.Held.{Held}
use Rattle.spv_undo.specs.Undo.{Undoes}
use Rattle.spv_undo.specs.declared.entries.Entry.TheVariants.{PcMoved}
use Rattle.spv_undo.proofs.Exports.{pc_undone}
use Rattle.spv_journal.proofs.RecordLemmas.{extended, held_of, same_held, still, still_unwinds}
use Rattle.spv_journal.proofs.recorded.Recorded.set_pc.Goals as goal

-- the move's entry leads back
moved : (i pc old : ℕ) (s t : State) (j : Kept) (w : Held) → held_of s j ≡ w → i < length w.state.stacks → IsSome (top_of w.state i) → t ≡ on_frame i (with_pc pc) s → option_map (λ (f : Frame). f.pc) (top_of s i) ≡ Some old
    → Undoes i (PcMoved old) s t
moved i pc old s t j w is inside some after was =
    subst (Undoes i (PcMoved old) s) (sym after)
    (pc_undone i pc old s (subst (λ (h : Held). i < length h.state.stacks) (sym is) inside) (subst (λ (h : Held). IsSome (top_of h.state i)) (sym is) some) was)

pub invariant_of-self : goal.invariant_of-self
invariant_of-self c =
    let s = c.self.inside.whole in
    let t = c.set_pc-old.new.self in
    let j = c.self.inside.journal in
    let old = c.set_pc-old.result in
    let u = moved c.args.i c.args.pc old s t j c.args.self.now c.self.view_is c.requires.inside c.requires.frames c.set_pc-old.ensures.after c.set_pc-old.ensures.handed in
    (extended 1 c.args.i (PcMoved old) s t j c.move_pc.new.self c.args.self.now c.self.view_is c.requires.making c.in-Ok.ensures.ok u c.self.invariant (omega arith)).unwinds

pub returns-in-Ok-clause-recorded : goal.returns-in-Ok-clause-recorded
returns-in-Ok-clause-recorded c =
    let s = c.self.inside.whole in
    let t = c.set_pc-old.new.self in
    let j = c.self.inside.journal in
    let old = c.set_pc-old.result in
    let u = moved c.args.i c.args.pc old s t j c.args.self.now c.self.view_is c.requires.inside c.requires.frames c.set_pc-old.ensures.after c.set_pc-old.ensures.handed in
    (extended 1 c.args.i (PcMoved old) s t j c.move_pc.new.self c.args.self.now c.self.view_is c.requires.making c.in-Ok.ensures.ok u c.self.invariant (omega arith)).records

pub set_pc-requires : goal.set_pc-requires
set_pc-requires c =
    let u = moved c.args.i c.args.pc c.set_pc-old.result c.self.inside.whole c.set_pc-old.new.self c.self.inside.journal c.args.self.now c.self.view_is c.requires.inside c.requires.frames c.set_pc-old.ensures.after c.set_pc-old.ensures.handed in
    record { inside = u.can.0; frames = u.can.1 }

pub invariant_of-self-in-Err : goal.invariant_of-self-in-Err
invariant_of-self-in-Err c =
    let s = c.self.inside.whole in
    let j = c.self.inside.journal in
    let u = moved c.args.i c.args.pc c.set_pc-old.result s c.set_pc-old.new.self j c.args.self.now c.self.view_is c.requires.inside c.requires.frames c.set_pc-old.ensures.after c.set_pc-old.ensures.handed in
    still_unwinds s c.set_pc.new.self j c.move_pc.new.self c.in-Err.ensures.err (c.set_pc.ensures.after ∙ u.back) c.self.invariant

pub returns-in-Err : goal.returns-in-Err
returns-in-Err c =
    let s = c.self.inside.whole in
    let j = c.self.inside.journal in
    let u = moved c.args.i c.args.pc c.set_pc-old.result s c.set_pc-old.new.self j c.args.self.now c.self.view_is c.requires.inside c.requires.frames c.set_pc-old.ensures.after c.set_pc-old.ensures.handed in
    let same = same_held s c.set_pc.new.self j c.move_pc.new.self c.args.self.now c.self.view_is c.in-Err.ensures.err (c.set_pc.ensures.after ∙ u.back) in
    record { ok = search rules; recorded = still 1 c.args.self.now _ same; err = same }
