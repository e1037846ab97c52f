use Rattle.std.proofs.Common.{◌≡◌, ◌∙◌, ◌<◌, ℕ, [], Some, length, ap, arith, refl, subst, sym}
use Rattle.std.specs.Option.{IsSomeAnd}
use Rattle.spv_base.specs.declared.values.Root.{Root}
use Rattle.spv_base.specs.declared.values.Value.{Value}
use Rattle.spv_mem.specs.Memory.{Held as Memory, IsMemory, MayStore, load_of}
use Rattle.spv_types.specs.Rows.{leaves}
use Rattle.spv_state.specs.State.{State, on_frame, put_store, top_of, with_pc}
use Rattle.spv_journal.specs.Events.{Kept}
use Rattle.spv_journal.specs.Held.{Held}
use Rattle.spv_journal.specs.Marks.{Marked}
use Rattle.spv_undo.specs.Entries.{variable_item}
use Rattle.spv_undo.specs.Undo.{Undoes, undo}
use Rattle.spv_undo.proofs.Exports.{HasOne, Stands, some_there, variable_undone, whole}
use Rattle.spv_journal.proofs.CellLemmas.{can_put, made_at_once}
use Rattle.spv_journal.proofs.RecordLemmas.{held_of}
use Rattle.spv_journal.proofs.recorded.Recorded.store_cell.Goals as goal

-- the top frame still stands at the word
stands : (i w : ℕ) (root : Root) (v : Value) (s t : State) (j : Kept) (old : Held) → held_of s j ≡ old → i < length old.state.stacks → IsSomeAnd (top_of old.state i) (λ f. f.pc ≡ w) → t ≡ undo i (variable_item root v) s → Stands t i w
stands i w root v s t j old is inside at after =
    subst (λ (x : State). Stands x i w) (sym after) (subst (λ (h : Held). i < length h.state.stacks) (sym is) inside, subst (λ (h : Held). IsSomeAnd (top_of h.state i) (λ f. f.pc ≡ w)) (sym is) at)

-- the old value can be put back
stored : (i : ℕ) (root : Root) (v r : Value) (m : Memory) (s t : State) (j : Kept) (old : Held) → held_of s j ≡ old → HasOne old.state.memory i root → ∥ MayStore old.state.memory i (whole root) v ∥₁ → t ≡ undo i (variable_item root v) s
    → load_of s.memory i (whole root) ≡ Some r → length (leaves v) ≡ 1 → m ≡ s.memory → ∥ IsMemory m ∥₁ → Undoes i (variable_item root r) s t
stored i root v r m s t j old is one may after had single same sound =
    variable_undone i root v r r s t (can_put i root v s j old is one may) after had single (subst (λ (x : Memory). ∥ IsMemory x ∥₁) same sound) refl

pub exchange_variable-requires : goal.exchange_variable-requires
exchange_variable-requires c =
    can_put c.args.happening.inv c.args.root c.args.value c.self.inside.whole c.self.inside.journal c.args.self.now c.self.view_is c.requires.one c.requires.may

pub set_pc-requires : goal.set_pc-requires
set_pc-requires c =
    let i = c.args.happening.inv in
    let w = c.args.happening.word in
    let t = c.exchange_variable.new.whole in
    let there = stands i w c.args.root c.args.value c.self.inside.whole t c.self.inside.journal c.args.self.now c.self.view_is c.requires.inside c.requires.stands c.exchange_variable.ensures.after in
    record { inside = there.0; frames = some_there (top_of t i) (λ f. f.pc ≡ w) there.1 }

pub keep-requires : goal.keep-requires
keep-requires c = record { none = ap (λ (h : Held). h.gathered) c.self.view_is ∙ c.requires.none; whole = ap (λ (m : Marked). m.beside) c.of_variable.ensures }

pub invariant_of-self : goal.invariant_of-self
invariant_of-self c =
    let h = c.args.happening in
    let s = c.self.inside.whole in
    let t = c.exchange_variable.new.whole in
    let j = c.self.inside.journal in
    let r = c.exchange_variable.new.value in
    let first = stored h.inv c.args.root c.args.value r c.memory.result.now s t j c.args.self.now c.self.view_is c.requires.one c.requires.may c.exchange_variable.ensures.after c.exchange_variable.ensures.handed c.exchange_variable.ensures.one
    c.memory.ensures c.keeps_types.ensures in
    let there = stands h.inv h.word c.args.root c.args.value s t j c.args.self.now c.self.view_is c.requires.inside c.requires.stands c.exchange_variable.ensures.after in
    (made_at_once h (variable_item c.args.root r) c.args.pc c.of_variable.result s t c.set_pc.new.self j c.keep.new.self c.args.self.now c.self.view_is c.requires.none first there c.set_pc.ensures.after c.of_variable.ensures c.keep.ensures
    (omega arith) c.self.invariant).unwinds

pub returns : goal.returns
returns c =
    let h = c.args.happening in
    let s = c.self.inside.whole in
    let t = c.exchange_variable.new.whole in
    let j = c.self.inside.journal in
    let r = c.exchange_variable.new.value in
    let first = stored h.inv c.args.root c.args.value r c.memory.result.now s t j c.args.self.now c.self.view_is c.requires.one c.requires.may c.exchange_variable.ensures.after c.exchange_variable.ensures.handed c.exchange_variable.ensures.one
    c.memory.ensures c.keeps_types.ensures in
    let there = stands h.inv h.word c.args.root c.args.value s t j c.args.self.now c.self.view_is c.requires.inside c.requires.stands c.exchange_variable.ensures.after in
    record {
      state = c.set_pc.ensures.after
          ∙ ap (λ (x : State). on_frame h.inv (with_pc c.args.pc) x)
          (c.exchange_variable.ensures.after ∙ ap (λ (o : Held). put_store h.inv (Some (record { root = c.args.root; path = [] }, c.args.value)) o.state) c.self.view_is);
      kept = (made_at_once h (variable_item c.args.root r) c.args.pc c.of_variable.result s t c.set_pc.new.self j c.keep.new.self c.args.self.now c.self.view_is c.requires.none first there c.set_pc.ensures.after c.of_variable.ensures
          c.keep.ensures (omega arith) c.self.invariant).kept;
    }
