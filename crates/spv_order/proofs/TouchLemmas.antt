-- What events touch, as touches: one event more.
use Rattle.std.proofs.Common.{◌≡◌, ◌+◌, ◌<◌, ◌++◌, ℕ, zero, suc, Bool, true, false, List, [], ◌∷◌, map, get_or, slice_get, Some, inl, inr, refl, sym, ap, subst, arith}
use Rattle.std.proofs.lemmas.List.Elements.{All-append, All-map, Contains-append_left, Contains-append_right, Contains-get_or}
use Rattle.std.proofs.lemmas.List.Sorted.{All-permutation, Contains-permutation}
use Rattle.spv_base.proofs.Exports.{same_some}
use Rattle.std.specs.List.Sorted.{IsPermutation}
use Rattle.std.specs.List.{All, Contains}
use Rattle.spv_order.proofs.SweepLemmas.{before_or_here}
use Rattle.spv_order.specs.Touches.{AreTouches, IsTouchOf, listed, touch_of}
use Rattle.spv_order.specs.declared.events.Event.{Event}
use Rattle.spv_order.specs.declared.events.Leaves.{Leaves}
use Rattle.spv_order.specs.declared.touches.Touch.{Touch}

contains_mapped : {X Y : Type 0} (f : X → Y) (xs : List X) (x : X) → Contains xs x → Contains (map f xs) (f x)
contains_mapped f [] x (k, l, is) = absurd (omega (arith, l))
contains_mapped f (y ∷ ys) x (zero, l, is) = (0, omega arith, ap f is)
contains_mapped f (y ∷ ys) x (suc k, l, is) = let rest = contains_mapped f ys x (k, omega (arith, l), is) in (suc rest.0, omega (arith, rest.1), rest.2)

here_listed : (k : ℕ) (e : Event) (writes : Bool) (r : Leaves) (touches : List Touch) → Contains (listed writes e) r
    → Contains ((touches ++ map (touch_of k e.invocation false) e.reads.items) ++ map (touch_of k e.invocation true) e.writes.items) (touch_of k e.invocation writes r)
here_listed k e false r touches c = Contains-append_left _ _ _ (Contains-append_right touches _ _ (contains_mapped (touch_of k e.invocation false) e.reads.items r c))
here_listed k e true r touches c = Contains-append_right _ _ _ (contains_mapped (touch_of k e.invocation true) e.writes.items r c)

within : (writes : Bool) (e : Event) (r : Leaves) → All (λ (x : Leaves). x.end < 4294967296) e.reads.items → All (λ (x : Leaves). x.end < 4294967296) e.writes.items → Contains (listed writes e) r → r.end < 4294967296
within false e r reads writes (k, l, is) = subst (λ (x : Leaves). x.end < 4294967296) is (reads k r l)
within true e r reads writes (k, l, is) = subst (λ (x : Leaves). x.end < 4294967296) is (writes k r l)

touches_here : (events : List Event) (k : ℕ) (e : Event) (writes : Bool) → slice_get events k ≡ Some e → All (λ (x : Leaves). x.end < 4294967296) (listed writes e)
    → All (IsTouchOf events (k + 1)) (map (touch_of k e.invocation writes) (listed writes e))
touches_here events k e writes at fits = All-map (IsTouchOf events (k + 1)) (touch_of k e.invocation writes) (listed writes e)
    (λ i d l. (omega arith, (e, get_or (listed writes e) i d, at, Contains-get_or (listed writes e) i d l, fits i d l, refl)))

pub touches_more : (events : List Event) (k : ℕ) (e : Event) (touches more : List Touch) → slice_get events k ≡ Some e
    → All (λ (x : Leaves). x.end < 4294967296) e.reads.items → All (λ (x : Leaves). x.end < 4294967296) e.writes.items
    → more ≡ (touches ++ map (touch_of k e.invocation false) e.reads.items) ++ map (touch_of k e.invocation true) e.writes.items
    → AreTouches events k touches → AreTouches events (k + 1) more
touches_more events k e touches more at reads writes is old = subst (λ ts. AreTouches events (k + 1) ts) (sym is) (record {
  sound = All-append (IsTouchOf events (k + 1)) _ _
      (All-append (IsTouchOf events (k + 1)) _ _ (λ i d l. let o = old.sound i d l in (omega (arith, o.0), o.1)) (touches_here events k e false at reads))
      (touches_here events k e true at writes);
  complete = λ j f w r l there c. elim (before_or_here j k l) [
    | inl below ↦ let o = old.complete j f w r below there c in (o.0, Contains-append_left _ _ _ (Contains-append_left _ _ _ o.1))
    | inr here ↦
        let same : e ≡ f = same_some (slice_get events k) e f at (subst (λ h. slice_get events h ≡ Some f) here there) in
        let listed_here = subst (λ g. Contains (listed w g) r) (sym same) c in (
          within w e r reads writes listed_here,
          subst (λ h. Contains ((touches ++ map (touch_of k e.invocation false) e.reads.items) ++ map (touch_of k e.invocation true) e.writes.items) (touch_of h f.invocation w r)) (sym here)
              (subst (λ g. Contains ((touches ++ map (touch_of k e.invocation false) e.reads.items) ++ map (touch_of k e.invocation true) e.writes.items) (touch_of k g.invocation w r)) same
              (here_listed k e w r touches listed_here)),
        )
  ];
})

pub touches_none : (events : List Event) → AreTouches events 0 []
touches_none events = record { sound = λ i d l. absurd (omega (arith, l)); complete = λ k e w r l. absurd (omega (arith, l)) }

-- in another order they are the same touches
pub touches_sorted : (events : List Event) (n : ℕ) (touches sorted : List Touch) → IsPermutation touches sorted → AreTouches events n touches → AreTouches events n sorted
touches_sorted events n touches sorted moved are = record {
  sound = All-permutation (IsTouchOf events n) touches sorted moved are.sound;
  complete = λ k e w r l at c. let o = are.complete k e w r l at c in (o.0, Contains-permutation touches sorted _ moved o.1);
}
