-- Where two events conflict, as where two touches clash.
use Rattle.std.proofs.Common.{◌≡◌, ◌≢◌, ◌⊎◌, ◌+◌, ◌<◌, ◌≤◌, ℕ, zero, suc, Bool, true, false, List, [], ◌∷◌, length, slice_get, Some, inl, inr, refl, sym, ◌∙◌, ap, subst, arith}
use Rattle.std.specs.List.{All, Contains}
use Rattle.spv_base.proofs.Exports.{opposite, same_some}
use Rattle.spv_order.proofs.SweepLemmas.{before_or_here, clash_turned}
use Rattle.spv_order.specs.Arrivals.{IsFirstArrival}
use Rattle.spv_order.specs.Order.{ArrivesAt, ConflictAt, Holds, IsFreeBefore, IsLeafBefore, IsOrder, TouchesLeaf}
use Rattle.spv_order.specs.Sweep.{Clash, Clashes, IsChosen, IsFirstPair, IsFree}
use Rattle.spv_order.specs.Touches.{AreTouches, IsTouchOf, address, listed, touch_of}
use Rattle.spv_order.specs.declared.events.Event.{Event}
use Rattle.spv_order.specs.declared.orders.Answer.TheVariants.{Barrier, Conflict}
use Rattle.spv_order.specs.declared.touches.Touch.{Touch}

-- ---- from events to touches

-- a touch of an event's at a leaf
record IsTouchAt (xs : List Touch) (x i : ℕ) (writes : Bool) (a : ℕ) (s : Touch) : Type 0 where
  there : Contains xs s
  event : s.event ≡ x
  invocation : s.invocation ≡ i
  kind : s.writes ≡ writes
  from : s.start ≤ a
  to : a < s.stop

touch_at : (events : List Event) (n : ℕ) (xs : List Touch) → AreTouches events n xs → (x : ℕ) (e : Event) (writes : Bool) (root leaf : ℕ) → x < n → slice_get events x ≡ Some e → Holds (listed writes e) root leaf
    → (s : Touch) × IsTouchAt xs x e.invocation writes (address root leaf) s
touch_at events n xs are x e writes root leaf l at (r, c, same, low, high) = (
  touch_of x e.invocation writes r,
  record {
    there = (are.complete x e writes r l at c).1;
    event = refl;
    invocation = refl;
    kind = refl;
    from = omega (arith, same, low);
    to = omega (arith, same, high);
  },
)

below_limit : (events : List Event) (n : ℕ) (xs : List Touch) → AreTouches events n xs → (x : ℕ) (e : Event) (writes : Bool) (root leaf : ℕ) → x < n → slice_get events x ≡ Some e → Holds (listed writes e) root leaf → leaf < 4294967296
below_limit events n xs are x e writes root leaf l at (r, c, same, from, to) = omega (arith, to, (are.complete x e writes r l at c).0)

holds_some : (e : Event) (root leaf : ℕ) → TouchesLeaf e root leaf → (writes : Bool) × Holds (listed writes e) root leaf
holds_some e root leaf t = elim t [ inl r ↦ (false, r) | inr w ↦ (true, w) ]

clash_of : (xs : List Touch) (x y i j : ℕ) (v w : Bool) (a : ℕ) (s t : Touch) → i ≢ j → (v ≡ true) ⊎ (w ≡ true) → IsTouchAt xs x i v a s → IsTouchAt xs y j w a t → Clash s t a
clash_of xs x y i j v w a s t ne one p q = (
  (λ e. ne (sym p.invocation ∙ e ∙ q.invocation)),
  elim one [ inl is ↦ inl (p.kind ∙ is) | inr is ↦ inr (q.kind ∙ is) ],
  p.from,
  p.to,
  q.from,
  q.to,
)

-- two events that conflict have touches that clash
pub clash_from : (events : List Event) (n : ℕ) (xs : List Touch) → AreTouches events n xs → (x y root leaf : ℕ) → x < n → y < n → ConflictAt events x y root leaf
    → (s t : Touch) × Contains xs s × Contains xs t × (s.event ≡ x) × (t.event ≡ y) × Clash s t (address root leaf)
clash_from events n xs are x y root leaf lx ly (e, f, at_x, at_y, (ne, te, tf, one)) =
    elim one [
      | inl we ↦
          let p = touch_at events n xs are x e true root leaf lx at_x we in
          let some = holds_some f root leaf tf in
          let q = touch_at events n xs are y f some.0 root leaf ly at_y some.1 in
          (p.0, q.0, p.1.there, q.1.there, p.1.event, q.1.event, clash_of xs x y e.invocation f.invocation true some.0 (address root leaf) p.0 q.0 ne (inl refl) p.1 q.1)
      | inr wf ↦
          let some = holds_some e root leaf te in
          let p = touch_at events n xs are x e some.0 root leaf lx at_x some.1 in
          let q = touch_at events n xs are y f true root leaf ly at_y wf in
          (p.0, q.0, p.1.there, q.1.there, p.1.event, q.1.event, clash_of xs x y e.invocation f.invocation some.0 true (address root leaf) p.0 q.0 ne (inr refl) p.1 q.1)
    ]

pub limit_from : (events : List Event) (n : ℕ) (xs : List Touch) → AreTouches events n xs → (x y root leaf : ℕ) → x < n → ConflictAt events x y root leaf → leaf < 4294967296
limit_from events n xs are x y root leaf lx (e, f, at_x, at_y, (ne, te, tf, one)) =
    let some = holds_some e root leaf te in below_limit events n xs are x e some.0 root leaf lx at_x some.1

-- ---- from touches to events

touched : (events : List Event) (n : ℕ) (xs : List Touch) (s : Touch) → AreTouches events n xs → Contains xs s → IsTouchOf events n s
touched events n xs s are (k, l, is) = subst (λ t. IsTouchOf events n t) is (are.sound k s l)

holds_from : (events : List Event) (n root leaf : ℕ) (s : Touch) (of : IsTouchOf events n s) → leaf < 4294967296 → s.start ≤ address root leaf → address root leaf < s.stop → Holds (listed s.writes of.1.0) root leaf
holds_from events n root leaf s (l, (e, r, at, c, fits, is)) small from to =
    let start : s.start ≡ address r.root r.first = ap (λ (t : Touch). t.start) is in
    let stop : s.stop ≡ address r.root r.end = ap (λ (t : Touch). t.stop) is in
    let same : r.root ≡ root = omega (arith, start, stop, small, from, to, fits) in
    (r, c, same, omega (arith, same, start, from), omega (arith, same, stop, to))

touches_from : (e : Event) (writes : Bool) (root leaf : ℕ) → Holds (listed writes e) root leaf → TouchesLeaf e root leaf
touches_from e false root leaf h = inl h
touches_from e true root leaf h = inr h

write_from : (e : Event) (writes : Bool) (root leaf : ℕ) → writes ≡ true → Holds (listed writes e) root leaf → Holds e.writes.items root leaf
write_from e writes root leaf is h = subst (λ w. Holds (listed w e) root leaf) is h

invocation_of : (events : List Event) (n : ℕ) (s : Touch) (of : IsTouchOf events n s) → s.invocation ≡ of.1.0.invocation
invocation_of events n s (l, (e, r, at, c, fits, is)) = ap (λ (t : Touch). t.invocation) is

pub conflict_from : (events : List Event) (n root leaf : ℕ) (xs : List Touch) (s t : Touch) → AreTouches events n xs → Contains xs s → Contains xs t → leaf < 4294967296 → Clash s t (address root leaf) → ConflictAt events s.event t.event root leaf
conflict_from events n root leaf xs s t are cs ct small (ne, one, s_from, s_to, t_from, t_to) =
    let p = touched events n xs s are cs in
    let q = touched events n xs t are ct in
    let hp = holds_from events n root leaf s p small s_from s_to in
    let hq = holds_from events n root leaf t q small t_from t_to in (
      p.1.0,
      q.1.0,
      p.1.2,
      q.1.2,
      (
        (λ e. ne (invocation_of events n s p ∙ e ∙ sym (invocation_of events n t q))),
        touches_from p.1.0 s.writes root leaf hp,
        touches_from q.1.0 t.writes root leaf hq,
        elim one [ inl w ↦ inl (write_from p.1.0 s.writes root leaf w hp) | inr w ↦ inr (write_from q.1.0 t.writes root leaf w hq) ],
      ),
    )

-- touches of one event don't clash
pub not_one : (events : List Event) (n a : ℕ) (xs : List Touch) (s t : Touch) → AreTouches events n xs → Contains xs s → Contains xs t → s.event ≡ t.event → Clash s t a → ⊥
not_one events n a xs s t are cs ct same clash =
    let p = touched events n xs s are cs in
    let q = touched events n xs t are ct in
    let e = same_some (slice_get events t.event) p.1.0 q.1.0 (subst (λ k. slice_get events k ≡ Some p.1.0) same p.1.2) q.1.2 in
    clash.0 (invocation_of events n s p ∙ ap (λ (f : Event). f.invocation) e ∙ sym (invocation_of events n t q))

pub events_below : (events : List Event) (n : ℕ) (xs : List Touch) → AreTouches events n xs → All (λ (t : Touch). t.event < n) xs
events_below events n xs are k d l = (are.sound k d l).0

pub unconflicted_order : (events : List Event) (n : ℕ) → IsFirstArrival events n → IsFreeBefore events n → n < length events → IsOrder events (Barrier n)
unconflicted_order events n first free low = (first.2 low, free)

-- ---- arrivals

pub one_arrives : (events : List Event) (k : ℕ) (e : Event) → slice_get events k ≡ Some e → e.arrives ≡ true → ArrivesAt events k
one_arrives events k e at is = (e, at, is)

pub none_arrives : (events : List Event) (k : ℕ) (e : Event) → slice_get events k ≡ Some e → e.arrives ≡ false → ArrivesAt events k → ⊥
none_arrives events k e at is (f, there, arrives) = opposite e.arrives (subst (λ (g : Event). g.arrives ≡ true) (same_some (slice_get events k) f e there at) arrives) is

-- ---- the answer

pub free_before : (events : List Event) (n b also : ℕ) (xs : List Touch) → IsFirstArrival events n → AreTouches events n xs → b ≤ n → ((a : ℕ) → IsFree xs b also a) → IsFreeBefore events b
free_before events n b also xs first are most free z l settled = elim settled [
  | inl arrives ↦ first.1 z (omega (arith, l, most)) arrives
  | inr r ↦
      let lx = r.3 in
      let c = clash_from events n xs are r.0 z r.1 r.2 (omega (arith, l, lx, most)) (omega (arith, l, most)) r.4 in
      let one = c.4 in
      let two = c.5 in
      free (address r.1 r.2) (c.0, c.1, c.2, c.3, inl (omega (arith, one, l, lx)), inl (omega (arith, two, l)), c.6)
]

past_end : (events : List Event) (z : ℕ) (e : Event) → slice_get events z ≡ Some e → z < length events
past_end [] z e at = absurd (cc)
past_end (x ∷ xs) zero e at = omega arith
past_end (x ∷ xs) (suc z) e at = let rest = past_end xs z e at in omega (arith, rest)

pub free_all : (events : List Event) (n : ℕ) → length events ≤ n → IsFreeBefore events n → (y : ℕ) → IsFreeBefore events y
free_all events n over free y z l settled =
    let below : z < n = elim settled [
      | inl a ↦ let low = past_end events z a.0 a.1 in omega (arith, low, over)
      | inr r ↦ let low = past_end events z r.4.1 r.4.3 in omega (arith, low, over)
    ] in
    free z below settled

-- none of the events before 0 clash, and one event alone doesn't
pub free_alone : (events : List Event) (n also : ℕ) (xs : List Touch) → AreTouches events n xs → (a : ℕ) → IsFree xs 0 also a
free_alone events n also xs are a (s, t, cs, ct, ps, pt, clash) =
    not_one events n a xs s t are cs ct (elim ps [
      | inl l ↦ absurd (omega (arith, l))
      | inr is ↦ elim pt [
        | inl l ↦ absurd (omega (arith, l))
        | inr other ↦ is ∙ sym other
      ]
    ]) clash

-- where x is the least event with which y clashes, and none before y clash, a clash is of x and y
only_these : (events : List Event) (n x y a : ℕ) (xs : List Touch) (s t : Touch) → AreTouches events n xs → ((b : ℕ) → IsFree xs y n b) → ((b : ℕ) → IsFree xs x y b) → x < y
    → Contains xs s → Contains xs t → IsChosen (x + 1) y s → IsChosen (x + 1) y t → Clash s t a → ((s.event ≡ x) × (t.event ≡ y)) ⊎ ((s.event ≡ y) × (t.event ≡ x))
only_these events n x y a xs s t are free_y free_x lx cs ct ps pt clash = elim ps [
  | inl ls ↦ elim pt [
    | inl lt ↦ absurd (free_y a (s, t, cs, ct, inl (omega (arith, ls, lx)), inl (omega (arith, lt, lx)), clash))
    | inr t_is ↦ elim (before_or_here s.event x ls) [
      | inl low ↦ absurd (free_x a (s, t, cs, ct, inl low, inr t_is, clash))
      | inr s_is ↦ inl (s_is, t_is)
    ]
  ]
  | inr s_is ↦ elim pt [
    | inl lt ↦ elim (before_or_here t.event x lt) [
      | inl low ↦ absurd (free_x a (s, t, cs, ct, inr s_is, inl low, clash))
      | inr t_is ↦ inr (s_is, t_is)
    ]
    | inr t_is ↦ absurd (not_one events n a xs s t are cs ct (s_is ∙ sym t_is) clash)
  ]
]

conflict_of : (events : List Event) (n x y root leaf : ℕ) (xs : List Touch) → AreTouches events n xs → ((b : ℕ) → IsFree xs y n b) → ((b : ℕ) → IsFree xs x y b) → x < y → leaf < 4294967296
    → Clashes xs (x + 1) y (address root leaf) → ConflictAt events x y root leaf
conflict_of events n x y root leaf xs are free_y free_x lx small (s, t, cs, ct, ps, pt, clash) =
    elim (only_these events n x y (address root leaf) xs s t are free_y free_x lx cs ct ps pt clash) [
      | inl these ↦ subst (λ h. ConflictAt events x h root leaf) these.1 (subst (λ h. ConflictAt events h t.event root leaf) these.0 (conflict_from events n root leaf xs s t are cs ct small clash))
      | inr these ↦ subst (λ h. ConflictAt events x h root leaf) these.0 (subst (λ h. ConflictAt events h s.event root leaf) these.1 (conflict_from events n root leaf xs t s are ct cs small (clash_turned s t (address root leaf) clash)))
    ]

address_before : (r l root leaf : ℕ) → l < 4294967296 → leaf < 4294967296 → IsLeafBefore r l root leaf → address r l < address root leaf
address_before r l root leaf small limit before = elim before [ inl low ↦ omega (arith, low, small) | inr these ↦ let same = these.0 in let low = these.1 in omega (arith, same, low) ]

pub conflict_found : (events : List Event) (n x y a : ℕ) (xs : List Touch) → IsFirstArrival events n → AreTouches events n xs → IsFirstPair xs n x y a
    → (root leaf : ℕ) → leaf < 4294967296 → a ≡ address root leaf → IsOrder events (Conflict x y root leaf)
conflict_found events n x y a xs first are found root leaf small is = (
  free_before events n y n xs first are (let low = found.within in omega (arith, low)) found.none_before,
  first.1 y found.within,
  found.earlier,
  conflict_of events n x y root leaf xs are found.none_before found.least found.earlier small (subst (λ b. Clashes xs (x + 1) y b) is found.clash),
  (λ w r l low conflict.
      let c = clash_from events n xs are w y r l (let one = found.earlier in let two = found.within in omega (arith, low, one, two)) found.within conflict in
      found.least (address r l) (c.0, c.1, c.2, c.3, inl (omega (arith, c.4, low)), inr c.5, c.6)),
  (λ r l before conflict.
      let one = found.earlier in
      let two = found.within in
      let lx : x < n = omega (arith, one, two) in
      let limit = limit_from events n xs are x y r l lx conflict in
      let c = clash_from events n xs are x y r l lx found.within conflict in
      let low = address_before r l root leaf limit small before in
      found.first (address r l) (omega (arith, low, is)) (c.0, c.1, c.2, c.3, inl (omega (arith, c.4)), inr c.5, c.6)),
)
