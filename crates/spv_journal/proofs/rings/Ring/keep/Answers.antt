use Rattle.std.proofs.Common.{◌≡◌, ◌∙◌, ◌+◌, ◌-◌, ◌≤◌, ℕ, List, [], ◌∷◌, ap, arith, refl, sym}
use Rattle.std.proofs.lemmas.List.{take_all}
use Rattle.circular_buffer.specs.Buffer.{Buffer}
use Rattle.spv_journal.specs.Events.{Event, fitting, size, size_of}
use Rattle.spv_journal.specs.Rings.{Ringed, event_of, events}
use Rattle.spv_journal.specs.Marks.{Marked}
use Rattle.spv_journal.proofs.RingLemmas.{event_put, event_size, has_room, one_fits, ring_put}
use Rattle.spv_journal.proofs.rings.Ring.keep.Goals as goal

pub invariant_of-self : goal.invariant_of-self
invariant_of-self c =
    let r = c.self-else-need-limit.inside in
    let k = c.args.mark in
    let need = c.size-need.result in
    let sizes : size (events r.marks.items r.entries.items) ≡ size c.make_room.new.self.events = ap (λ (x : Ringed). size x.events) c.self-else-need-limit.view_is in
    let limit : r.entries.capacity ≡ c.make_room.new.self.limit = ap (λ (x : Ringed). x.limit) c.self-else-need-limit.view_is in
    let was : c.self.inside.entries.capacity ≡ c.args.self.now.limit = ap (λ (x : Ringed). x.limit) c.self.view_is in
    let same = c.make_room.ensures.limit in
    let capacity = c.capacity-limit.ensures.capacity in
    let room = c.make_room.ensures.size in
    let less = c.if-need-limit.false in
    let held = c.self-else-need-limit.invariant.1.entries in
    let mark = c.size-need.ensures.size in
    let whole = c.requires in
    let one = event_size k [] in
    let is : need ≡ size_of (event_of k []) = omega (arith, mark, one) in
    let fits : r.held + need ≤ r.entries.capacity = omega (arith, sizes, limit, was, same, capacity, room, less, held) in
    let both = has_room r.marks.items r.entries.items [] r.entries.capacity r.held need k c.self-else-need-limit.invariant.1 is fits in
    let alike = c.self-else-need-limit.invariant.0 in
    let marks = both.0 in
    let put : c.push_front.new.self.items ≡ k ∷ r.marks.items =
    ap (λ (b : Buffer Marked). b.items) c.push_front.ensures.items ∙ take_all r.marks.capacity (k ∷ r.marks.items) (omega (arith, marks, alike)) in
    let ring = ring_put r.marks.items c.push_front.new.self.items r.entries.items r.entries.items [] r.entries.capacity r.held need k c.self-else-need-limit.invariant.1 whole put refl is fits in
    (ap (λ (b : Buffer Marked). b.capacity) c.push_front.ensures.items ∙ alike, ring)

pub returns-else-need-limit-clause-events : goal.returns-else-need-limit-clause-events
returns-else-need-limit-clause-events c =
    let r = c.self-else-need-limit.inside in
    let k = c.args.mark in
    let need = c.size-need.result in
    let v = event_of k [] in
    let sizes : size (events r.marks.items r.entries.items) ≡ size c.make_room.new.self.events = ap (λ (x : Ringed). size x.events) c.self-else-need-limit.view_is in
    let limit : r.entries.capacity ≡ c.make_room.new.self.limit = ap (λ (x : Ringed). x.limit) c.self-else-need-limit.view_is in
    let was : c.self.inside.entries.capacity ≡ c.args.self.now.limit = ap (λ (x : Ringed). x.limit) c.self.view_is in
    let same = c.make_room.ensures.limit in
    let capacity = c.capacity-limit.ensures.capacity in
    let room = c.make_room.ensures.size in
    let less = c.if-need-limit.false in
    let held = c.self-else-need-limit.invariant.1.entries in
    let mark = c.size-need.ensures.size in
    let whole = c.requires in
    let one = event_size k [] in
    let is : need ≡ size_of (event_of k []) = omega (arith, mark, one) in
    let fits : r.held + need ≤ r.entries.capacity = omega (arith, sizes, limit, was, same, capacity, room, less, held) in
    let both = has_room r.marks.items r.entries.items [] r.entries.capacity r.held need k c.self-else-need-limit.invariant.1 is fits in
    let alike = c.self-else-need-limit.invariant.0 in
    let marks = both.0 in
    let put : c.push_front.new.self.items ≡ k ∷ r.marks.items =
    ap (λ (b : Buffer Marked). b.items) c.push_front.ensures.items ∙ take_all r.marks.capacity (k ∷ r.marks.items) (omega (arith, marks, alike)) in
    event_put r.marks.items c.push_front.new.self.items r.entries.items r.entries.items [] k whole put refl
    ∙ ap (λ (x : Ringed). v ∷ x.events) c.self-else-need-limit.view_is
    ∙ ap (λ (vs : List Event). v ∷ vs) c.make_room.ensures.events
    ∙ ap (λ (n : ℕ). v ∷ fitting (n - need) c.args.self.now.events) (capacity ∙ was)
    ∙ one_fits c.args.self.now.limit need v c.args.self.now.events (sym is) (omega (arith, less, capacity, was))
