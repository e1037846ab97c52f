use Rattle.std.proofs.Common.{◌≡◌, ◌∙◌, ◌<◌, None, length, option_copied, ap, arith, subst, sym}
use Rattle.std.specs.Option.{IsSomeAnd}
use Rattle.spv_base.specs.declared.values.Value.{Ptr}
use Rattle.spv_frame.specs.Registers.{number_of}
use Rattle.spv_state.specs.Slots.{IsHeldPointer}
use Rattle.spv_state.specs.State.{on_frame, top_of, with_register}
use Rattle.spv_journal.specs.Held.{Held}
use Rattle.spv_undo.specs.Undo.{Undoes}
use Rattle.spv_undo.proofs.Exports.{no_pointer_register, pointer_counts, pointer_register_is, pointer_undone}
use Rattle.spv_journal.proofs.RecordLemmas.{extended}
use Rattle.spv_journal.proofs.recorded.Recorded.set_pointer.Goals as goal

pub invariant_of-self-in-Some : goal.invariant_of-self-in-Some
invariant_of-self-in-Some c =
    let s = c.self.inside.whole in
    let n = c.in-Some.held.number in
    let o = option_copied c.in-Some.held.pointer in
    let held : IsSomeAnd (top_of s c.args.i) (λ f. IsHeldPointer c.args.id f n o) = c.in-Some.ensures in
    let low = (subst (λ (h : Held). c.args.i < length h.state.stacks) (sym c.self.view_is) c.requires.inv) in
    let e = c.in_ok-entry-in-Some.entry in
    let u : Undoes c.args.i e s c.put_pointer.new.whole =
    subst (Undoes c.args.i e s) (sym c.put_pointer.ensures) (pointer_undone c.args.i c.args.id n o e c.args.pointer s low held c.in_ok-entry-in-Some.ensures) in
    let x = extended 1 c.args.i e s c.put_pointer.new.whole c.self.inside.journal c.add.new.self c.args.self.now c.self.view_is c.requires.making c.in_ok-add-in-Some.ensures.ok u c.self.invariant (pointer_counts n o e c.in_ok-entry-in-Some.ensures) in
    x.unwinds

pub returns-in_ok-add-in-Some-clause-ok : goal.returns-in_ok-add-in-Some-clause-ok
returns-in_ok-add-in-Some-clause-ok c =
    let s = c.self.inside.whole in
    let n = c.in-Some.held.number in
    let o = option_copied c.in-Some.held.pointer in
    let held : IsSomeAnd (top_of s c.args.i) (λ f. IsHeldPointer c.args.id f n o) = c.in-Some.ensures in
    c.put_pointer.ensures ∙ pointer_register_is c.args.i c.args.id n o c.args.pointer s held
    ∙ ap (λ (h : Held). on_frame c.args.i (with_register c.args.id (Ptr c.args.pointer)) h.state) c.self.view_is

pub returns-in_ok-add-in-Some-clause-recorded : goal.returns-in_ok-add-in-Some-clause-recorded
returns-in_ok-add-in-Some-clause-recorded c =
    let s = c.self.inside.whole in
    let n = c.in-Some.held.number in
    let o = option_copied c.in-Some.held.pointer in
    let held : IsSomeAnd (top_of s c.args.i) (λ f. IsHeldPointer c.args.id f n o) = c.in-Some.ensures in
    let low = (subst (λ (h : Held). c.args.i < length h.state.stacks) (sym c.self.view_is) c.requires.inv) in
    let e = c.in_ok-entry-in-Some.entry in
    let u : Undoes c.args.i e s c.put_pointer.new.whole =
    subst (Undoes c.args.i e s) (sym c.put_pointer.ensures) (pointer_undone c.args.i c.args.id n o e c.args.pointer s low held c.in_ok-entry-in-Some.ensures) in
    let x = extended 1 c.args.i e s c.put_pointer.new.whole c.self.inside.journal c.add.new.self c.args.self.now c.self.view_is c.requires.making c.in_ok-add-in-Some.ensures.ok u c.self.invariant (pointer_counts n o e c.in_ok-entry-in-Some.ensures) in
    x.records

pub returns-in-None-clause-ok : goal.returns-in-None-clause-ok
returns-in-None-clause-ok c =
    let none : IsSomeAnd (top_of c.self.inside.whole c.args.i) (λ f. number_of c.args.id f.plan.pointers ≡ None) = c.in-None.ensures in
    no_pointer_register c.args.accepted.now c.args.i c.args.id c.args.pointer c.args.self.now.state c.requires.frame
    (subst (λ (h : Held). IsSomeAnd (top_of h.state c.args.i) (λ f. number_of c.args.id f.plan.pointers ≡ None)) c.self.view_is none)
