use Rattle.std.proofs.Common.{◌≡◌, ◌∙◌, ◌+◌, ◌-◌, ◌<◌, ◌≤◌, ℕ, List, Some, ap, arith, length, slice_get, subst, sym, take}
use Rattle.circular_buffer.specs.Buffer.{Buffer}
use Rattle.spv_journal.specs.Events.{Event, size}
use Rattle.spv_journal.specs.Rings.{IsRing, Ringed, but_oldest, events, mark_size}
use Rattle.spv_journal.specs.Marks.{Marked}
use Rattle.spv_journal.proofs.RingLemmas.{dropped, none_kept, oldest, ring_bounded}
use Rattle.spv_journal.proofs.rings.Ring.drop_oldest.Goals as goal

pub overflow_add-self : goal.overflow_add-self
overflow_add-self c =
    let r = c.self.inside in
    let last : slice_get r.marks.items (length r.marks.items - 1) ≡ Some c.in-Some.mark = let v = c.pop_back.ensures.value in let f = c.in-Some.is in cc in
    let rest = ap (λ (b : Buffer Marked). b.items) c.pop_back.ensures.items in
    let o = oldest r.marks.items c.pop_back.new.self.items r.entries.items r.entries.capacity r.held c.in-Some.mark c.self.invariant.1 last rest in
    let counts = o.counts in
    let gone = c.drop_last-counted.ensures.counted in
    let size = c.size.ensures.size in
    let held = c.self.ranges in
    omega (arith, counts, gone, size, held)

pub overflow_sub-self : goal.overflow_sub-self
overflow_sub-self c =
    let r = c.self.inside in
    let last : slice_get r.marks.items (length r.marks.items - 1) ≡ Some c.in-Some.mark = let v = c.pop_back.ensures.value in let f = c.in-Some.is in cc in
    let rest = ap (λ (b : Buffer Marked). b.items) c.pop_back.ensures.items in
    let o = oldest r.marks.items c.pop_back.new.self.items r.entries.items r.entries.capacity r.held c.in-Some.mark c.self.invariant.1 last rest in
    let counts = o.counts in
    let gone = c.drop_last-counted.ensures.counted in
    let size = c.size.ensures.size in
    omega (arith, counts, gone, size)

pub drop_last-counted-requires-clause-there : goal.drop_last-counted-requires-clause-there
drop_last-counted-requires-clause-there c =
    let r = c.self.inside in
    let last : slice_get r.marks.items (length r.marks.items - 1) ≡ Some c.in-Some.mark = let v = c.pop_back.ensures.value in let f = c.in-Some.is in cc in
    let rest = ap (λ (b : Buffer Marked). b.items) c.pop_back.ensures.items in
    subst (λ (n : ℕ). n ≤ length r.entries.items) (sym c.beside.ensures) (oldest r.marks.items c.pop_back.new.self.items r.entries.items r.entries.capacity r.held c.in-Some.mark c.self.invariant.1 last rest).there

pub drop_last-counted-requires-clause-bounded : goal.drop_last-counted-requires-clause-bounded
drop_last-counted-requires-clause-bounded c =
    let r = c.self.inside in
    ring_bounded r.marks.items r.entries.items r.entries.capacity r.held c.self.invariant.1

pub invariant_of-self : goal.invariant_of-self
invariant_of-self c =
    let r = c.self.inside in
    let last : slice_get r.marks.items (length r.marks.items - 1) ≡ Some c.in-Some.mark = let v = c.pop_back.ensures.value in let f = c.in-Some.is in cc in
    let rest = ap (λ (b : Buffer Marked). b.items) c.pop_back.ensures.items in
    let left = c.drop_last-counted.ensures.entries ∙ ap (λ (n : ℕ). take (length r.entries.items - n) r.entries.items) c.beside.ensures in
    let d = dropped r.marks.items c.pop_back.new.self.items r.entries.items c.drop_last-counted.new.entries.items r.entries.capacity r.held c.drop_last-counted.result c.in-Some.mark c.self.invariant.1 last rest left c.drop_last-counted.ensures.counted in
    let size = c.size.ensures.size in
    let gone = c.drop_last-counted.result in
    let same : r.held - (mark_size c.in-Some.mark + gone) ≡ r.held - (c.size.result + gone) = omega (arith, size) in (
      ap (λ (b : Buffer Marked). b.capacity) c.pop_back.ensures.items ∙ c.self.invariant.0 ∙ sym c.drop_last-counted.ensures.capacity,
      subst (λ (n : ℕ). IsRing c.pop_back.new.self.items c.drop_last-counted.new.entries.items n (r.held - (c.size.result + gone))) (sym c.drop_last-counted.ensures.capacity)
          (subst (IsRing c.pop_back.new.self.items c.drop_last-counted.new.entries.items r.entries.capacity) same d.ring),
    )

pub unreachable-requires : goal.unreachable-requires
unreachable-requires c =
    let r = c.self.inside in
    none_kept r.marks.items r.entries.items (subst (λ (vs : List Event). 0 < length vs) (sym (ap (λ (x : Ringed). x.events) c.self.view_is)) c.requires) (let v = c.pop_back.ensures.value in let e = c.in-None.is in cc)

pub returns-clause-events : goal.returns-clause-events
returns-clause-events c =
    let r = c.self.inside in
    let last : slice_get r.marks.items (length r.marks.items - 1) ≡ Some c.in-Some.mark = let v = c.pop_back.ensures.value in let f = c.in-Some.is in cc in
    let rest = ap (λ (b : Buffer Marked). b.items) c.pop_back.ensures.items in
    let left = c.drop_last-counted.ensures.entries ∙ ap (λ (n : ℕ). take (length r.entries.items - n) r.entries.items) c.beside.ensures in
    let d = dropped r.marks.items c.pop_back.new.self.items r.entries.items c.drop_last-counted.new.entries.items r.entries.capacity r.held c.drop_last-counted.result c.in-Some.mark c.self.invariant.1 last rest left c.drop_last-counted.ensures.counted in
    d.left ∙ ap (λ (x : Ringed). but_oldest x.events) c.self.view_is

pub returns-clause-size : goal.returns-clause-size
returns-clause-size c =
    let r = c.self.inside in
    let last : slice_get r.marks.items (length r.marks.items - 1) ≡ Some c.in-Some.mark = let v = c.pop_back.ensures.value in let f = c.in-Some.is in cc in
    let rest = ap (λ (b : Buffer Marked). b.items) c.pop_back.ensures.items in
    let left = c.drop_last-counted.ensures.entries ∙ ap (λ (n : ℕ). take (length r.entries.items - n) r.entries.items) c.beside.ensures in
    let d = dropped r.marks.items c.pop_back.new.self.items r.entries.items c.drop_last-counted.new.entries.items r.entries.capacity r.held c.drop_last-counted.result c.in-Some.mark c.self.invariant.1 last rest left c.drop_last-counted.ensures.counted in
    subst (λ (x : Ringed). size (events c.pop_back.new.self.items c.drop_last-counted.new.entries.items) < size x.events) c.self.view_is d.less
