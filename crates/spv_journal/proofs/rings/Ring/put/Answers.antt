use Rattle.std.proofs.Common.{◌≡◌, ◌∙◌, ◌+◌, ◌-◌, ◌≤◌, ℕ, List, ◌∷◌, ap, arith, length, refl, subst, sym, take}
use Rattle.std.proofs.lemmas.List.{take_all}
use Rattle.circular_buffer.specs.Buffer.{Buffer}
use Rattle.spv_journal.specs.Events.{Event, fitting, size, size_of}
use Rattle.spv_journal.specs.Rings.{IsRing, Ringed, event_of, events}
use Rattle.spv_journal.specs.Marks.{Marked}
use Rattle.spv_journal.proofs.RingLemmas.{event_put, few_changes, has_room, one_fits, ring_put}
use Rattle.spv_journal.proofs.rings.Ring.put.Goals as goal

pub overflow_cast-len : goal.overflow_cast-len
overflow_cast-len c =
    let k = c.args.mark.now in
    let gs = c.args.gathered.now.items in
    let left = c.in-Some.ensures.room in
    let capacity = c.capacity-limit.ensures.capacity in
    let few = few_changes gs c.capacity-limit.result (size_of (event_of k gs)) k refl (omega (arith, left)) in
    let long = c.len.ensures in
    let deque = c.args.gathered.now.ok.0 in
    let narrow = c.self.invariant.1.counted in
    omega (arith, few, long, deque, capacity, narrow)

pub put_all-requires : goal.put_all-requires
put_all-requires c =
    let r = c.self-in-Some.inside in
    let k : Marked = record c.args.mark.now { beside = c.len.result } in
    let gs = c.args.gathered.now.items in
    let need = c.capacity-limit.result - c.in-Some.room in
    let sizes : size (events r.marks.items r.entries.items) ≡ size c.make_room.new.self.events = ap (λ (x : Ringed). size x.events) c.self-in-Some.view_is in
    let limit : r.entries.capacity ≡ c.make_room.new.self.limit = ap (λ (x : Ringed). x.limit) c.self-in-Some.view_is in
    let was : c.self.inside.entries.capacity ≡ c.args.self.now.limit = ap (λ (x : Ringed). x.limit) c.self.view_is in
    let same = c.make_room.ensures.limit in
    let capacity = c.capacity-limit.ensures.capacity in
    let room = c.make_room.ensures.size in
    let left = c.in-Some.ensures.room in
    let held = c.self-in-Some.invariant.1.entries in
    let is : need ≡ size_of (event_of k gs) = omega (arith, left) in
    let fits : r.held + need ≤ r.entries.capacity = omega (arith, sizes, limit, was, same, capacity, room, left, held) in
    let both = has_room r.marks.items r.entries.items gs r.entries.capacity r.held need k c.self-in-Some.invariant.1 is fits in
    let entries = both.1 in
    omega (arith, entries)

pub invariant_of-self : goal.invariant_of-self
invariant_of-self c =
    let r = c.self-in-Some.inside in
    let k : Marked = record c.args.mark.now { beside = c.len.result } in
    let gs = c.args.gathered.now.items in
    let need = c.capacity-limit.result - c.in-Some.room in
    let sizes : size (events r.marks.items r.entries.items) ≡ size c.make_room.new.self.events = ap (λ (x : Ringed). size x.events) c.self-in-Some.view_is in
    let limit : r.entries.capacity ≡ c.make_room.new.self.limit = ap (λ (x : Ringed). x.limit) c.self-in-Some.view_is in
    let was : c.self.inside.entries.capacity ≡ c.args.self.now.limit = ap (λ (x : Ringed). x.limit) c.self.view_is in
    let same = c.make_room.ensures.limit in
    let capacity = c.capacity-limit.ensures.capacity in
    let room = c.make_room.ensures.size in
    let left = c.in-Some.ensures.room in
    let held = c.self-in-Some.invariant.1.entries in
    let is : need ≡ size_of (event_of k gs) = omega (arith, left) in
    let fits : r.held + need ≤ r.entries.capacity = omega (arith, sizes, limit, was, same, capacity, room, left, held) in
    let both = has_room r.marks.items r.entries.items gs r.entries.capacity r.held need k c.self-in-Some.invariant.1 is fits in
    let alike = c.self-in-Some.invariant.0 in
    let marks = both.0 in
    let counted = c.len.ensures in
    let deque = c.args.gathered.now.ok.0 in
    let many : k.beside ≡ length gs = omega (arith, counted, deque) in
    let told : c.again.result ≡ k = c.again.ensures ∙ c.set_beside.ensures in
    let put : c.push_front.new.self.items ≡ k ∷ r.marks.items =
    ap (λ (b : Buffer Marked). b.items) c.push_front.ensures.items ∙ ap (λ (m : Marked). take r.marks.capacity (m ∷ r.marks.items)) told ∙ take_all r.marks.capacity (k ∷ r.marks.items) (omega (arith, marks, alike)) in
    let ring = ring_put r.marks.items c.push_front.new.self.items r.entries.items c.put_all.new.entries.items gs r.entries.capacity r.held need k c.self-in-Some.invariant.1 many put c.put_all.ensures.entries is fits in (
      ap (λ (b : Buffer Marked). b.capacity) c.push_front.ensures.items ∙ alike ∙ sym c.put_all.ensures.capacity,
      subst (λ (n : ℕ). IsRing c.push_front.new.self.items c.put_all.new.entries.items n (r.held + need)) (sym c.put_all.ensures.capacity) ring,
    )

pub returns-in-Some-clause-events : goal.returns-in-Some-clause-events
returns-in-Some-clause-events c =
    let r = c.self-in-Some.inside in
    let k : Marked = record c.args.mark.now { beside = c.len.result } in
    let gs = c.args.gathered.now.items in
    let need = c.capacity-limit.result - c.in-Some.room in
    let sizes : size (events r.marks.items r.entries.items) ≡ size c.make_room.new.self.events = ap (λ (x : Ringed). size x.events) c.self-in-Some.view_is in
    let limit : r.entries.capacity ≡ c.make_room.new.self.limit = ap (λ (x : Ringed). x.limit) c.self-in-Some.view_is in
    let was : c.self.inside.entries.capacity ≡ c.args.self.now.limit = ap (λ (x : Ringed). x.limit) c.self.view_is in
    let same = c.make_room.ensures.limit in
    let capacity = c.capacity-limit.ensures.capacity in
    let room = c.make_room.ensures.size in
    let left = c.in-Some.ensures.room in
    let held = c.self-in-Some.invariant.1.entries in
    let is : need ≡ size_of (event_of k gs) = omega (arith, left) in
    let fits : r.held + need ≤ r.entries.capacity = omega (arith, sizes, limit, was, same, capacity, room, left, held) in
    let both = has_room r.marks.items r.entries.items gs r.entries.capacity r.held need k c.self-in-Some.invariant.1 is fits in
    let alike = c.self-in-Some.invariant.0 in
    let marks = both.0 in
    let counted = c.len.ensures in
    let deque = c.args.gathered.now.ok.0 in
    let many : k.beside ≡ length gs = omega (arith, counted, deque) in
    let told : c.again.result ≡ k = c.again.ensures ∙ c.set_beside.ensures in
    let put : c.push_front.new.self.items ≡ k ∷ r.marks.items =
    ap (λ (b : Buffer Marked). b.items) c.push_front.ensures.items ∙ ap (λ (m : Marked). take r.marks.capacity (m ∷ r.marks.items)) told ∙ take_all r.marks.capacity (k ∷ r.marks.items) (omega (arith, marks, alike)) in
    let v = event_of c.args.mark.now gs in
    let over : c.in-Some.room ≡ c.args.self.now.limit - need = omega (arith, left, capacity, was) in
    event_put r.marks.items c.push_front.new.self.items r.entries.items c.put_all.new.entries.items gs k many put c.put_all.ensures.entries
    ∙ ap (λ (x : Ringed). v ∷ x.events) c.self-in-Some.view_is
    ∙ ap (λ (vs : List Event). v ∷ vs) c.make_room.ensures.events
    ∙ ap (λ (n : ℕ). v ∷ fitting n c.args.self.now.events) over
    ∙ one_fits c.args.self.now.limit need v c.args.self.now.events (sym is) (omega (arith, left, capacity, was))
