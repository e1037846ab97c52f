use Rattle.std.proofs.Common.{◌≡◌, ◌∙◌, ◌+◌, ◌-◌, ◌≤◌, ℕ, suc, ap, arith, drop, length, slice_get, subst, sym, take, Some}
use Rattle.circular_buffer.specs.Buffer.{Buffer}
use Rattle.spv_undo.specs.Entries.{count, count_of}
use Rattle.spv_undo.specs.Undo.{CanUndoAll, undo_all}
use Rattle.spv_undo.specs.declared.entries.Entry.{Entry}
use Rattle.spv_journal.proofs.RingLemmas.{count_split, first_counts, one_undone}
use Rattle.spv_journal.proofs.rings.undo_first.Goals as goal

pub overflow_add-counted : goal.overflow_add-counted
overflow_add-counted c =
    let l = c.loop-number in
    let n = c.args.many - (l._number + 1) in
    let test = c.loop-number-test.true in
    let one : c.args.many - l._number ≡ suc n = omega (arith, test) in
    let first : slice_get l.entries.items 0 ≡ Some c.in-Some.entry = let v = c.pop_front.ensures.value in let f = c.in-Some.is in cc in
    let f = first_counts n l.entries.items c.pop_front.new.self.items c.in-Some.entry first (ap (λ (b : Buffer Entry). b.items) c.pop_front.ensures.items) in
    let was : l.counted + count (take (suc n) l.entries.items) ≡ count (take c.args.many c.args.entries.now.items)
    = ap (λ (m : ℕ). l.counted + count (take m l.entries.items)) (sym one) ∙ l.invariant.counted in
    let all = count_split c.args.many c.args.entries.now.items in
    let few = c.requires.bounded in
    let had = c.count-counted.ensures.count in
    omega (arith, f, was, all, few, had)

pub loop-number-preserved : goal.loop-number-preserved
loop-number-preserved c =
    let l = c.loop-number in
    let n = c.args.many - (l._number + 1) in
    let test = c.loop-number-test.true in
    let one : c.args.many - l._number ≡ suc n = omega (arith, test) in
    let there : suc n ≤ length l.entries.items = subst (λ (m : ℕ). m ≤ length l.entries.items) one l.invariant.there in
    let can : CanUndoAll c.args.inv (take (suc n) l.entries.items) l.whole = subst (λ (m : ℕ). CanUndoAll c.args.inv (take m l.entries.items) l.whole) one l.invariant.can in
    let first : slice_get l.entries.items 0 ≡ Some c.in-Some.entry = let v = c.pop_front.ensures.value in let f = c.in-Some.is in cc in
    let u = one_undone c.args.inv n l.entries.items c.pop_front.new.self.items c.in-Some.entry l.whole c.undo.new.whole there can first (ap (λ (b : Buffer Entry). b.items) c.pop_front.ensures.items) c.undo.ensures in
    record {
      there = u.there;
      can = u.can;
      state = u.state ∙ ap (λ (m : ℕ). undo_all c.args.inv (take m l.entries.items) l.whole) (sym one) ∙ l.invariant.state;
      left = u.left ∙ ap (λ (m : ℕ). drop m l.entries.items) (sym one) ∙ l.invariant.left;
      capacity = ap (λ (b : Buffer Entry). b.capacity) c.pop_front.ensures.items ∙ l.invariant.capacity;
      counted =
          let f = first_counts n l.entries.items c.pop_front.new.self.items c.in-Some.entry first (ap (λ (b : Buffer Entry). b.items) c.pop_front.ensures.items) in
          let was : l.counted + count (take (suc n) l.entries.items) ≡ count (take c.args.many c.args.entries.now.items)
          = ap (λ (m : ℕ). l.counted + count (take m l.entries.items)) (sym one) ∙ l.invariant.counted in
          let had = c.count-counted.ensures.count in
          omega (arith, f, was, had);
    }
