use Rattle.std.proofs.Common.{◌≡◌, ◌∙◌, ◌+◌, ◌-◌, ℕ, List, Some, ap, arith, drop, slice_get, subst, sym, take}
use Rattle.circular_buffer.specs.Buffer.{Buffer}
use Rattle.spv_journal.specs.Events.{Event}
use Rattle.spv_undo.specs.Entries.{count}
use Rattle.spv_journal.specs.Marks.{Marked}
use Rattle.spv_journal.specs.Rings.{IsRing, Ringed, mark_size}
use Rattle.spv_journal.specs.Undo.{CanUndoNewest}
use Rattle.spv_undo.specs.declared.entries.Entry.{Entry}
use Rattle.spv_journal.proofs.RingLemmas.{newest_gone, ring_bounded}
use Rattle.spv_undo.proofs.Exports.{front_undoes}
use Rattle.spv_journal.proofs.rings.Ring.undo.Goals as goal

pub undo-requires : goal.undo-requires
undo-requires c =
    let r = c.self.inside in
    let k = c.in_ok-mark.mark in
    let first : slice_get r.marks.items 0 ≡ Some k = let v = c.pop_front.ensures.value in let f = c.in_ok-mark.ensures.value in cc in
    let n = newest_gone r.marks.items r.entries.items r.entries.capacity r.held k c.self.invariant.1 first in
    let can = subst (λ (vs : List Event). CanUndoNewest vs c.args.whole.now) n.all (subst (λ (x : Ringed). CanUndoNewest x.events c.args.whole.now) (sym c.self.view_is) c.requires) in
    (front_undoes k.happening.inv k.items (take k.beside r.entries.items) c.args.whole.now can).0

pub undo_first-counted-requires-clause-bounded : goal.undo_first-counted-requires-clause-bounded
undo_first-counted-requires-clause-bounded c =
    let r = c.self.inside in
    ring_bounded r.marks.items r.entries.items r.entries.capacity r.held c.self.invariant.1

pub invariant_of-self-2 : goal.invariant_of-self-2
invariant_of-self-2 c =
    let r = c.self.inside in
    let k = c.in_ok-mark.mark in
    let gone = c.undo_first-counted.result in
    let first : slice_get r.marks.items 0 ≡ Some k = let v = c.pop_front.ensures.value in let f = c.in_ok-mark.ensures.value in cc in
    let n = newest_gone r.marks.items r.entries.items r.entries.capacity r.held k c.self.invariant.1 first in
    let marks = ap (λ (b : Buffer Marked). b.items) c.pop_front.ensures.items in
    let entries = c.undo_first-counted.ensures.entries ∙ ap (λ (m : ℕ). drop m r.entries.items) c.beside.ensures in
    let counted : gone ≡ count (take k.beside r.entries.items) = c.undo_first-counted.ensures.counted ∙ ap (λ (m : ℕ). count (take m r.entries.items)) c.beside.ensures in
    let size = c.size.ensures.size in
    let left = r.held - (mark_size k + count (take k.beside r.entries.items)) in
    let held : left ≡ r.held - (c.size.result + gone) = omega (arith, counted, size) in
    let ring = subst (λ (ms : List Marked). IsRing ms (drop k.beside r.entries.items) r.entries.capacity left) (sym marks) n.ring in
    let whole = subst (λ (es : List Entry). IsRing c.pop_front.new.self.items es r.entries.capacity left) (sym entries) ring in (
      ap (λ (b : Buffer Marked). b.capacity) c.pop_front.ensures.items ∙ c.self.invariant.0 ∙ sym c.undo_first-counted.ensures.capacity,
      subst (λ (m : ℕ). IsRing c.pop_front.new.self.items c.undo_first-counted.new.entries.items m (r.held - (c.size.result + gone))) (sym c.undo_first-counted.ensures.capacity)
          (subst (IsRing c.pop_front.new.self.items c.undo_first-counted.new.entries.items r.entries.capacity) held whole),
    )
