use Rattle.std.proofs.Common.{◌≡◌, ◌∙◌, ◌<◌, ℕ, Bool, None, Some, length, ap, arith, rules, subst, sym}
use Rattle.std.specs.Option.{IsSomeAnd}
use Rattle.spv_base.specs.declared.values.Value.{Value}
use Rattle.spv_types.specs.Rows.{leaves}
use Rattle.spv_frame.specs.Numbers.{with_value}
use Rattle.spv_frame.specs.Registers.{ids, marked, number_of}
use Rattle.spv_state.specs.Slots.{IsExchanged}
use Rattle.spv_state.specs.State.{State, on_frame, top_of, with_register}
use Rattle.spv_journal.specs.Entries.{Keeps}
use Rattle.spv_undo.specs.OldValues.{KeepsValue}
use Rattle.spv_journal.specs.Events.{Kept, opened}
use Rattle.spv_journal.specs.Held.{Held, IsMaking}
use Rattle.spv_journal.specs.Undo.{CanUnwind}
use Rattle.spv_undo.proofs.Exports.{Exchanged, exchanged, no_register, register_is, row_back, value_counts}
use Rattle.spv_journal.proofs.RecordLemmas.{Extended, held_of, kept, same_held, still, still_unwinds}
use Rattle.spv_journal.proofs.recorded.Recorded.set_value.Goals as goal

-- the old value can be put back
taken : (i id n : ℕ) (v r : Value) (has : Bool) (s t : State) (j : Kept) (old : Held) → held_of s j ≡ old → i < length old.state.stacks → IsSomeAnd (top_of s i) (IsExchanged id n v r has) → t ≡ on_frame i (with_value n (Some v)) s
    → Exchanged i n v r has s t
taken i id n v r has s t j old is low was after = exchanged i id n v r has s t (subst (λ (h : Held). i < length h.state.stacks) (sym is) low) was after

-- and its entry leads back
value_kept : (i n : ℕ) (v r : Value) (has : Bool) (s t : State) (j k : Kept) (old : Held) → Exchanged i n v r has s t → held_of s j ≡ old → IsMaking old.gathered i → Keeps (KeepsValue n (marked r has) (length (leaves r))) j k
    → CanUnwind (opened j.gathered j.ring) s → Extended 1 old t k
value_kept i n v r has s t j k old x is making keeps can =
    kept 1 i (KeepsValue n (marked r has) (length (leaves r))) s t j k old is making keeps x.undone (value_counts n (length (leaves r)) (marked r has)) can

pub invariant_of-self : goal.invariant_of-self
invariant_of-self c =
    let s = c.self.inside.whole in
    let t = c.exchange_register.new.self in
    let j = c.self.inside.journal in
    let n = c.in-Some.number in
    let r = c.exchange_register.new.row in
    let has = c.exchange_register.new.has in
    let x = taken c.args.i c.args.id n c.args.row.now r has s t j c.args.self.now c.self.view_is c.requires.inv c.in-Some.ensures.register c.in-Some.ensures.after in
    (value_kept c.args.i n c.args.row.now r has s t j c.keep_held.new.journal c.args.self.now x c.self.view_is c.requires.making c.in-Ok.ensures.ok c.self.invariant).unwinds

pub returns-in-Ok : goal.returns-in-Ok
returns-in-Ok c =
    let s = c.self.inside.whole in
    let t = c.exchange_register.new.self in
    let j = c.self.inside.journal in
    let n = c.in-Some.number in
    let r = c.exchange_register.new.row in
    let has = c.exchange_register.new.has in
    let x = taken c.args.i c.args.id n c.args.row.now r has s t j c.args.self.now c.self.view_is c.requires.inv c.in-Some.ensures.register c.in-Some.ensures.after in
    record {
      ok = c.in-Some.ensures.after ∙ register_is c.args.i c.args.id n c.args.row.now r has s c.requires.plain c.in-Some.ensures.register
          ∙ ap (λ (h : Held). on_frame c.args.i (with_register c.args.id c.args.row.now) h.state) c.self.view_is;
      recorded = (value_kept c.args.i n c.args.row.now r has s t j c.keep_held.new.journal c.args.self.now x c.self.view_is c.requires.making c.in-Ok.ensures.ok c.self.invariant).records;
      err = search rules;
    }

pub exchange_value-requires : goal.exchange_value-requires
exchange_value-requires c =
    let x = taken c.args.i c.args.id c.in-Some.number c.args.row.now c.exchange_register.new.row c.exchange_register.new.has c.self.inside.whole c.exchange_register.new.self c.self.inside.journal c.args.self.now c.self.view_is c.requires.inv
    c.in-Some.ensures.register c.in-Some.ensures.after in
    record { inv = x.inside; register = x.room }

pub invariant_of-self-in-Err : goal.invariant_of-self-in-Err
invariant_of-self-in-Err c =
    let s = c.self.inside.whole in
    let j = c.self.inside.journal in
    let x = taken c.args.i c.args.id c.in-Some.number c.args.row.now c.exchange_register.new.row c.exchange_register.new.has s c.exchange_register.new.self j c.args.self.now c.self.view_is c.requires.inv c.in-Some.ensures.register
    c.in-Some.ensures.after in
    still_unwinds s c.exchange_value.new.self j c.keep_held.new.journal c.in-Err.ensures.err (c.exchange_value.ensures.after ∙ x.back) c.self.invariant

pub returns-in-Err : goal.returns-in-Err
returns-in-Err c =
    let s = c.self.inside.whole in
    let t = c.exchange_register.new.self in
    let j = c.self.inside.journal in
    let n = c.in-Some.number in
    let x = taken c.args.i c.args.id n c.args.row.now c.exchange_register.new.row c.exchange_register.new.has s t j c.args.self.now c.self.view_is c.requires.inv c.in-Some.ensures.register c.in-Some.ensures.after in
    let same = same_held s c.exchange_value.new.self j c.keep_held.new.journal c.args.self.now c.self.view_is c.in-Err.ensures.err (c.exchange_value.ensures.after ∙ x.back) in
    record {
      ok = search rules;
      recorded = still 1 c.args.self.now _ same;
      err = (same, row_back (top_of t c.args.i) n c.args.row.now c.exchange_value.new.value c.exchange_value.new.has x.holds c.exchange_value.ensures.handed);
    }

pub returns-in-None-clause-ok : goal.returns-in-None-clause-ok
returns-in-None-clause-ok c =
    let none : IsSomeAnd (top_of c.self.inside.whole c.args.i) (λ f. number_of c.args.id (ids f.plan.values) ≡ None) = c.in-None.ensures.register in
    c.in-None.ensures.after ∙ ap (λ (h : Held). h.state) c.self.view_is
    ∙ no_register c.args.accepted.now c.args.i c.args.id c.args.row.now c.args.self.now.state c.requires.plain c.requires.frame
    (subst (λ (h : Held). IsSomeAnd (top_of h.state c.args.i) (λ f. number_of c.args.id (ids f.plan.values) ≡ None)) c.self.view_is none)
