use Rattle.std.proofs.Common.{◌≡◌, ◌∙◌, ◌+◌, ℕ, List, IsSome, Some, length, ap, arith, refl, rules, subst, sym}
use Rattle.spv_base.specs.declared.values.Pointer.{Pointer}
use Rattle.spv_base.specs.declared.values.Value.{Value}
use Rattle.spv_mem.specs.Memory.{Held as Memory, IsMemory, MayStore, load_of}
use Rattle.spv_mem.specs.Singles.{NamesRow}
use Rattle.spv_types.specs.Rows.{leaves}
use Rattle.spv_state.specs.State.{State, put_store}
use Rattle.spv_journal.specs.Events.{Kept, opened, pushed}
use Rattle.spv_journal.specs.Held.{Held, IsMaking}
use Rattle.spv_journal.specs.Undo.{CanUnwind}
use Rattle.spv_undo.specs.Undo.{Undoes}
use Rattle.spv_undo.specs.declared.entries.Entry.{Entry}
use Rattle.spv_undo.specs.declared.entries.Entry.TheVariants.{Leaf}
use Rattle.spv_journal.proofs.RecordLemmas.{Extended, extended, held_of, same_held, still, still_unwinds, with_entry}
use Rattle.spv_undo.proofs.Exports.{LeafBack, leaf_undone, put_back_leaf}
use Rattle.spv_journal.proofs.recorded.Recorded.store_leaf.Goals as goal

-- the old leaf can be put back
stored : (i : ℕ) (p : Pointer) (n : ℕ) (u w : Value) (m : Memory) (s t : State) (j : Kept) (old : Held) → held_of s j ≡ old → t ≡ put_store i (Some (p, u)) s → load_of s.memory i p ≡ Some w → m ≡ s.memory → ∥ IsMemory m ∥₁
    → length (leaves u) ≡ 1 → ∥ NamesRow old.state.memory i p n 1 ∥₁ → ∥ MayStore old.state.memory i p u ∥₁ → LeafBack i p n u w s t
stored i p n u w m s t j old is after had same sound one names may =
    put_back_leaf i p n u w s t after had one (subst (λ (h : Held). ∥ NamesRow h.state.memory i p n 1 ∥₁) (sym is) names) (subst (λ (x : Memory). ∥ IsMemory x ∥₁) same sound)
    (subst (λ (h : Held). ∥ MayStore h.state.memory i p u ∥₁) (sym is) may)

-- and its entry leads back
leaf_kept : (i : ℕ) (p q : Pointer) (n : ℕ) (u w x : Value) (e : Entry) (s t : State) (j k : Kept) (old : Held) → LeafBack i p n u w s t → q ≡ p → x ≡ w → e ≡ Leaf q.root n (record { of = record {}; value = q.path }) x → held_of s j ≡ old
    → IsMaking old.gathered i → k ≡ with_entry e j → CanUnwind (opened j.gathered j.ring) s → Extended (1 + length (leaves u)) old t k
leaf_kept i p q n u w x e s t j k old b place value same is making added can =
    let l = leaf_undone i p q n u w x s t b place value in
    let d = Leaf q.root n (record { of = record {}; value = q.path }) x in
    let d_undoes : Undoes i d s t = record { back = l.back; can = (l.there, l.names, l.may) } in
    extended (1 + length (leaves u)) i d s t j k old is making (added ∙ ap (λ (y : Entry). with_entry y j) same) d_undoes can (omega arith)

pub exchange_leaf-requires-clause-names : goal.exchange_leaf-requires-clause-names
exchange_leaf-requires-clause-names c =
    subst (λ (h : Held). ∥ NamesRow h.state.memory c.args.i c.args.pointer.now c.args.leaf 1 ∥₁) (sym c.self.view_is) c.requires.names

pub exchange_leaf-requires-clause-may : goal.exchange_leaf-requires-clause-may
exchange_leaf-requires-clause-may c =
    subst (λ (h : Held). ∥ MayStore h.state.memory c.args.i c.args.pointer.now c.args.row.now ∥₁) (sym c.self.view_is) c.requires.may

pub invariant_of-self : goal.invariant_of-self
invariant_of-self c =
    let s = c.self.inside.whole in
    let t = c.exchange_leaf.new.whole in
    let j = c.self.inside.journal in
    let p = c.args.pointer.now in
    let r = c.exchange_leaf.new.row in
    let b = stored c.args.i p c.args.leaf c.args.row.now r c.memory.result.now s t j c.args.self.now c.self.view_is c.exchange_leaf.ensures.after c.exchange_leaf.ensures.handed c.memory.ensures c.keeps_types.ensures c.requires.one
    c.requires.names c.requires.may in
    let q : Pointer = record { root = p.root; path = c.shadow.result.value } in
    let place : q ≡ p = ap (λ (w : List ℕ). record { root = p.root; path = w }) c.shadow.ensures in
    (leaf_kept c.args.i p q c.args.leaf c.args.row.now r c.of_part.result _ s t j c.add.new.self c.args.self.now b place (c.of_part.ensures ∙ c.as_part.ensures) refl c.self.view_is c.requires.making c.in-Ok.ensures.ok c.self.invariant).unwinds

pub returns-in-Ok-clause-recorded : goal.returns-in-Ok-clause-recorded
returns-in-Ok-clause-recorded c =
    let s = c.self.inside.whole in
    let t = c.exchange_leaf.new.whole in
    let j = c.self.inside.journal in
    let p = c.args.pointer.now in
    let r = c.exchange_leaf.new.row in
    let b = stored c.args.i p c.args.leaf c.args.row.now r c.memory.result.now s t j c.args.self.now c.self.view_is c.exchange_leaf.ensures.after c.exchange_leaf.ensures.handed c.memory.ensures c.keeps_types.ensures c.requires.one
    c.requires.names c.requires.may in
    let q : Pointer = record { root = p.root; path = c.shadow.result.value } in
    let place : q ≡ p = ap (λ (w : List ℕ). record { root = p.root; path = w }) c.shadow.ensures in
    (leaf_kept c.args.i p q c.args.leaf c.args.row.now r c.of_part.result _ s t j c.add.new.self c.args.self.now b place (c.of_part.ensures ∙ c.as_part.ensures) refl c.self.view_is c.requires.making c.in-Ok.ensures.ok c.self.invariant).records

pub exchange_leaf-requires-in-Err : goal.exchange_leaf-requires-in-Err
exchange_leaf-requires-in-Err c =
    let b = stored c.args.i c.args.pointer.now c.args.leaf c.args.row.now c.exchange_leaf.new.row c.memory.result.now c.self.inside.whole c.exchange_leaf.new.whole c.self.inside.journal c.args.self.now c.self.view_is c.exchange_leaf.ensures.after
    c.exchange_leaf.ensures.handed c.memory.ensures c.keeps_types.ensures c.requires.one c.requires.names c.requires.may in
    record { one = c.exchange_leaf.ensures.one; there = subst IsSome (sym b.load) refl; names = b.names; may = b.may }

pub invariant_of-self-in-Err : goal.invariant_of-self-in-Err
invariant_of-self-in-Err c =
    let s = c.self.inside.whole in
    let j = c.self.inside.journal in
    let b = stored c.args.i c.args.pointer.now c.args.leaf c.args.row.now c.exchange_leaf.new.row c.memory.result.now s c.exchange_leaf.new.whole j c.args.self.now c.self.view_is c.exchange_leaf.ensures.after c.exchange_leaf.ensures.handed
    c.memory.ensures c.keeps_types.ensures c.requires.one c.requires.names c.requires.may in
    still_unwinds s c.exchange_leaf-in-Err.new.whole j c.add.new.self c.in-Err.ensures.err (c.exchange_leaf-in-Err.ensures.after ∙ b.back) c.self.invariant

pub returns-in-Err : goal.returns-in-Err
returns-in-Err c =
    let s = c.self.inside.whole in
    let j = c.self.inside.journal in
    let b = stored c.args.i c.args.pointer.now c.args.leaf c.args.row.now c.exchange_leaf.new.row c.memory.result.now s c.exchange_leaf.new.whole j c.args.self.now c.self.view_is c.exchange_leaf.ensures.after c.exchange_leaf.ensures.handed
    c.memory.ensures c.keeps_types.ensures c.requires.one c.requires.names c.requires.may in
    let same = same_held s c.exchange_leaf-in-Err.new.whole j c.add.new.self c.args.self.now c.self.view_is c.in-Err.ensures.err (c.exchange_leaf-in-Err.ensures.after ∙ b.back) in
    record {
      ok = search rules;
      handed = search rules;
      recorded = still (1 + length (leaves c.args.row.now)) c.args.self.now _ same;
      err = (same, (let e = c.exchange_leaf-in-Err.ensures.handed in let l = b.load in cc));
    }
