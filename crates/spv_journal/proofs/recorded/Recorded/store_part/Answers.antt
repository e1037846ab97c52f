use Rattle.std.proofs.Common.{◌≡◌, ◌∙◌, ◌+◌, ℕ, IsSome, Some, length, arith, refl, rules, subst, sym}
use Rattle.spv_base.specs.declared.values.Pointer.{Pointer}
use Rattle.spv_base.specs.declared.values.Value.{Value}
use Rattle.spv_mem.specs.Memory.{Held as Memory, IsMemory, MayStore, load_of}
use Rattle.spv_types.specs.Rows.{leaves}
use Rattle.spv_state.specs.State.{State, put_store}
use Rattle.spv_journal.specs.Entries.{Keeps}
use Rattle.spv_undo.specs.OldValues.{KeepsPart}
use Rattle.spv_journal.specs.Events.{Kept, opened}
use Rattle.spv_journal.specs.Held.{Held, IsMaking}
use Rattle.spv_journal.specs.Undo.{CanUnwind}
use Rattle.spv_undo.specs.Undo.{Undoes}
use Rattle.spv_journal.proofs.RecordLemmas.{Extended, held_of, kept, same_held, still, still_unwinds}
use Rattle.spv_undo.proofs.Exports.{PutBack, put_back_part}
use Rattle.spv_journal.proofs.recorded.Recorded.store_part.Goals as goal

-- the old part can be put back
stored : (i : ℕ) (p : Pointer) (u w : Value) (m : Memory) (s t : State) (j : Kept) (old : Held) → held_of s j ≡ old → t ≡ put_store i (Some (p, u)) s → load_of s.memory i p ≡ Some w → m ≡ s.memory → ∥ IsMemory m ∥₁
    → ∥ MayStore old.state.memory i p u ∥₁ → PutBack i p u w s t
stored i p u w m s t j old is after had same sound may =
    put_back_part i p u w s t after had (subst (λ (x : Memory). ∥ IsMemory x ∥₁) same sound) (subst (λ (h : Held). ∥ MayStore h.state.memory i p u ∥₁) (sym is) may)

-- and its entry leads back
part_kept : (i : ℕ) (p : Pointer) (u w : Value) (s t : State) (j k : Kept) (old : Held) → PutBack i p u w s t → held_of s j ≡ old → IsMaking old.gathered i → Keeps (KeepsPart i p w t) j k → CanUnwind (opened j.gathered j.ring) s
    → Extended (1 + length (leaves u)) old t k
part_kept i p u w s t j k old b is making keeps can =
    kept (1 + length (leaves u)) i (KeepsPart i p w t) s t j k old is making keeps (λ e h. subst (λ (y : State). Undoes i e y t) b.back h.undoes)
    (λ e h. let counts = h.counts in let alike = b.alike in omega (arith, counts, alike)) can

pub store-requires-clause-may : goal.store-requires-clause-may
store-requires-clause-may c = subst (λ (h : Held). ∥ MayStore h.state.memory c.args.i c.args.pointer.now c.args.row.now ∥₁) (sym c.self.view_is) c.requires.may

pub keep_part-requires : goal.keep_part-requires
keep_part-requires c =
    let b = stored c.args.i c.args.pointer.now c.args.row.now c.store.new.row c.memory.result.now c.self.inside.whole c.store.new.self c.self.inside.journal c.args.self.now c.self.view_is c.store.ensures.after c.store.ensures.handed
    c.memory.ensures c.keeps_types.ensures c.requires.may in
    record { making = search rules; there = subst IsSome (sym b.load) refl; may = b.may }

pub invariant_of-self : goal.invariant_of-self
invariant_of-self c =
    let s = c.self.inside.whole in
    let t = c.store.new.self in
    let j = c.self.inside.journal in
    let b = stored c.args.i c.args.pointer.now c.args.row.now c.store.new.row c.memory.result.now s t j c.args.self.now c.self.view_is c.store.ensures.after c.store.ensures.handed c.memory.ensures c.keeps_types.ensures c.requires.may in
    (part_kept c.args.i c.args.pointer.now c.args.row.now c.store.new.row s t j c.keep_part.new.journal c.args.self.now b c.self.view_is c.requires.making c.in-Ok.ensures.ok c.self.invariant).unwinds

pub returns-in-Ok-clause-recorded : goal.returns-in-Ok-clause-recorded
returns-in-Ok-clause-recorded c =
    let s = c.self.inside.whole in
    let t = c.store.new.self in
    let j = c.self.inside.journal in
    let b = stored c.args.i c.args.pointer.now c.args.row.now c.store.new.row c.memory.result.now s t j c.args.self.now c.self.view_is c.store.ensures.after c.store.ensures.handed c.memory.ensures c.keeps_types.ensures c.requires.may in
    (part_kept c.args.i c.args.pointer.now c.args.row.now c.store.new.row s t j c.keep_part.new.journal c.args.self.now b c.self.view_is c.requires.making c.in-Ok.ensures.ok c.self.invariant).records

pub store-requires-in-Err : goal.store-requires-in-Err
store-requires-in-Err c =
    let b = stored c.args.i c.args.pointer.now c.args.row.now c.store.new.row c.memory.result.now c.self.inside.whole c.store.new.self c.self.inside.journal c.args.self.now c.self.view_is c.store.ensures.after c.store.ensures.handed
    c.memory.ensures c.keeps_types.ensures c.requires.may in
    record { there = subst IsSome (sym b.load) refl; may = b.may }

pub invariant_of-self-in-Err : goal.invariant_of-self-in-Err
invariant_of-self-in-Err c =
    let s = c.self.inside.whole in
    let j = c.self.inside.journal in
    let b = stored c.args.i c.args.pointer.now c.args.row.now c.store.new.row c.memory.result.now s c.store.new.self j c.args.self.now c.self.view_is c.store.ensures.after c.store.ensures.handed c.memory.ensures c.keeps_types.ensures
    c.requires.may in
    still_unwinds s c.store-in-Err.new.self j c.keep_part.new.journal c.in-Err.ensures.err (c.store-in-Err.ensures.after ∙ b.back) c.self.invariant

pub returns-in-Err : goal.returns-in-Err
returns-in-Err c =
    let s = c.self.inside.whole in
    let j = c.self.inside.journal in
    let b = stored c.args.i c.args.pointer.now c.args.row.now c.store.new.row c.memory.result.now s c.store.new.self j c.args.self.now c.self.view_is c.store.ensures.after c.store.ensures.handed c.memory.ensures c.keeps_types.ensures
    c.requires.may in
    let same = same_held s c.store-in-Err.new.self j c.keep_part.new.journal c.args.self.now c.self.view_is c.in-Err.ensures.err (c.store-in-Err.ensures.after ∙ b.back) in
    record {
      ok = search rules;
      handed = search rules;
      recorded = still (1 + length (leaves c.args.row.now)) c.args.self.now _ same;
      err = (same, (let e = c.store-in-Err.ensures.handed in let l = b.load in cc));
    }
