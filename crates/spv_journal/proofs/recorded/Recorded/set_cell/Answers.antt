use Rattle.std.proofs.Common.{◌≡◌, ◌∙◌, ◌<◌, ℕ, Some, length, ap, refl, subst, sym}
use Rattle.std.specs.Option.{IsSomeAnd}
use Rattle.spv_base.specs.declared.values.Value.{Value}
use Rattle.spv_frame.specs.Numbers.{with_value}
use Rattle.spv_frame.specs.Registers.{IsSlotOf}
use Rattle.spv_state.specs.Sources.{slot_of}
use Rattle.spv_state.specs.State.{State, on_frame, top_of, with_pc, with_register}
use Rattle.spv_journal.specs.Events.{Kept}
use Rattle.spv_journal.specs.Held.{Held}
use Rattle.spv_journal.specs.Marks.{Marked, register_item}
use Rattle.spv_undo.proofs.Exports.{Stands, cell_register_is, some_there, stands_still}
use Rattle.spv_journal.proofs.CellLemmas.{cell_exchanged, made_at_once, register_counts, register_kept}
use Rattle.spv_journal.proofs.RecordLemmas.{held_of}
use Rattle.spv_journal.proofs.recorded.Recorded.set_cell.Goals as goal

-- the top frame still stands at the word
stands : (i n w : ℕ) (v : Value) (s t : State) (j : Kept) (old : Held) → held_of s j ≡ old → i < length old.state.stacks → IsSomeAnd (top_of old.state i) (λ f. f.pc ≡ w) → t ≡ on_frame i (with_value n (Some v)) s → Stands t i w
stands i n w v s t j old is inside at after =
    stands_still i n w v s t (subst (λ (h : Held). i < length h.state.stacks) (sym is) inside) (subst (λ (h : Held). IsSomeAnd (top_of h.state i) (λ f. f.pc ≡ w)) (sym is) at) after

pub set_pc-requires : goal.set_pc-requires
set_pc-requires c =
    let i = c.args.happening.inv in
    let w = c.args.happening.word in
    let t = c.exchange_cell.new.self in
    let there = stands i c.args.slot.now.number w c.args.value c.self.inside.whole t c.self.inside.journal c.args.self.now c.self.view_is c.requires.inside c.requires.stands c.exchange_cell.ensures.after in
    record { inside = there.0; frames = some_there (top_of t i) (λ f. f.pc ≡ w) there.1 }

pub keep-requires : goal.keep-requires
keep-requires c = record { none = ap (λ (h : Held). h.gathered) c.self.view_is ∙ c.requires.none; whole = ap (λ (m : Marked). m.beside) c.of_register.ensures }

pub invariant_of-self : goal.invariant_of-self
invariant_of-self c =
    let h = c.args.happening in
    let n = c.args.slot.now.number in
    let s = c.self.inside.whole in
    let t = c.exchange_cell.new.self in
    let j = c.self.inside.journal in
    let r = c.exchange_cell.new.value in
    let has = c.exchange_cell.new.has in
    let x = cell_exchanged h.inv (slot_of c.args.slot.now) c.args.value r has s t j c.args.self.now c.self.view_is c.requires.inside c.requires.register refl c.exchange_cell.ensures.after c.exchange_cell.ensures.handed in
    let there = stands h.inv n h.word c.args.value s t j c.args.self.now c.self.view_is c.requires.inside c.requires.stands c.exchange_cell.ensures.after in
    (made_at_once h (register_item n r has) c.args.pc c.of_register.result s t c.set_pc.new.self j c.keep.new.self c.args.self.now c.self.view_is c.requires.none (x.undone (register_item n r has) (register_kept n r has)) there c.set_pc.ensures.after
    c.of_register.ensures c.keep.ensures (register_counts n r has) c.self.invariant).unwinds

pub returns : goal.returns
returns c =
    let h = c.args.happening in
    let slot = slot_of c.args.slot.now in
    let n = c.args.slot.now.number in
    let s = c.self.inside.whole in
    let t = c.exchange_cell.new.self in
    let j = c.self.inside.journal in
    let r = c.exchange_cell.new.value in
    let has = c.exchange_cell.new.has in
    let x = cell_exchanged h.inv slot c.args.value r has s t j c.args.self.now c.self.view_is c.requires.inside c.requires.register refl c.exchange_cell.ensures.after c.exchange_cell.ensures.handed in
    let there = stands h.inv n h.word c.args.value s t j c.args.self.now c.self.view_is c.requires.inside c.requires.stands c.exchange_cell.ensures.after in
    let lies = subst (λ (o : Held). IsSomeAnd (top_of o.state h.inv) (λ f. IsSlotOf f.plan.values slot)) (sym c.self.view_is) c.requires.register in
    record {
      state = c.set_pc.ensures.after
          ∙ ap (λ (y : State). on_frame h.inv (with_pc c.args.pc) y)
          (c.exchange_cell.ensures.after ∙ cell_register_is h.inv slot c.args.value s c.requires.plain lies ∙ ap (λ (o : Held). on_frame h.inv (with_register slot.id c.args.value) o.state) c.self.view_is);
      kept = (made_at_once h (register_item n r has) c.args.pc c.of_register.result s t c.set_pc.new.self j c.keep.new.self c.args.self.now c.self.view_is c.requires.none (x.undone (register_item n r has) (register_kept n r has)) there
          c.set_pc.ensures.after c.of_register.ensures c.keep.ensures (register_counts n r has) c.self.invariant).kept;
    }
