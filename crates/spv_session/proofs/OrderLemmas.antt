-- What was found of the order of some events is what it is worth.
use Rattle.std.proofs.Common.{◌≡◌, ◌≢◌, ◌∙◌, ◌⊎◌, ℕ, zero, suc, ◌+◌, ◌-◌, ◌<◌, ◌≤◌, ◌==◌, nat_lt, nat_le, Bool, true, false, cond, ◌&&◌, ◌||◌, List, [], ◌∷◌, ◌++◌, length, map, slice_get, Option, Some, None, inl, inr, refl, sym, ap, subst, arith}
use Rattle.std.proofs.lemmas.Bool.{and_parts, and_from, cases_lt, ltb-true, lt-ltb}
use Rattle.std.proofs.lemmas.Bool.Decides.{nat_tests}
use Rattle.std.proofs.lemmas.Option.{slice_get_cases, slice_get_within}
use Rattle.std.specs.List.{Contains, flat_map, list_any, range_with_len}
use Rattle.std.specs.Option.{option_map_or}
use Rattle.std.specs.Prelude.{filter, is_some}
use Rattle.spv_group.proofs.Exports.{least_is}
use Rattle.spv_group.specs.Positions.{IsLeast, least_of}
use Rattle.spv_order.specs.Order.{ArrivesAt, ConflictAt, ConflictOn, ConflictsEarlier, Holds, IsFreeBefore, IsLeafBefore, IsOrder, TouchesLeaf, Writes}
use Rattle.spv_order.specs.declared.events.Event.{Event}
use Rattle.spv_order.specs.declared.events.Leaves.{Leaves}
use Rattle.spv_order.specs.declared.orders.Answer.{Answer}
use Rattle.spv_order.specs.declared.orders.Answer.TheVariants.{Free, Barrier, Conflict}
use Rattle.spv_session.specs.Orders.{Does, Doing, IsAmong, Leaf, answer_at, answer_by, behind, conflict, conflict_answer, conflict_at, conflicts, first_of, holds, is_before, leads_to, leaves_of, lesser, matters, order_by, touched_leaves, touches, with_earlier}

-- ---- tests

same_nat : (a b : ℕ) → (a == b) ≡ true → a ≡ b
same_nat a b h = grind (arith, nat_tests)

nat_same : (a b : ℕ) → a ≡ b → (a == b) ≡ true
nat_same a b h = grind (arith, nat_tests)

other_nat : (a b : ℕ) → a ≢ b → (a == b) ≡ false
other_nat a b h = grind (arith, nat_tests)

nat_other : (a b : ℕ) → (a == b) ≡ false → a ≢ b
nat_other a b h = grind (arith, nat_tests)

le_true : (a b : ℕ) → nat_le a b ≡ true → a ≤ b
le_true a b h = grind (arith, nat_tests)

true_le : (a b : ℕ) → a ≤ b → nat_le a b ≡ true
true_le a b h = grind (arith, nat_tests)

or_parts : (a b : Bool) → (a || b) ≡ true → (a ≡ true) ⊎ (b ≡ true)
or_parts true b h = inl refl
or_parts false b h = inr h

or_left : (a b : Bool) → a ≡ true → (a || b) ≡ true
or_left true b h = refl
or_left false b h = absurd (cc)

or_right : (a b : Bool) → b ≡ true → (a || b) ≡ true
or_right true b h = refl
or_right false b h = h

not_true : (b : Bool) → (b ≡ true → ⊥) → b ≡ false
not_true true h = absurd (h refl)
not_true false h = refl

not_both : (b : Bool) → b ≡ true → b ≡ false → ⊥
not_both true h k = absurd (cc)
not_both false h k = absurd (cc)

-- ---- elements of lists

abbrev In : {X : Type 0} → List X → X → Type 0
In [] x = ⊥
In (y ∷ ys) x = (y ≡ x) ⊎ In ys x

module _ {X : Type 0} where
  in_contains : (xs : List X) (x : X) → Contains xs x → In xs x
  in_contains [] x (k, l, is) = absurd (omega (arith, l))
  in_contains (y ∷ ys) x (zero, l, is) = inl is
  in_contains (y ∷ ys) x (suc k, l, is) = inr (in_contains ys x (k, omega (arith, l), is))

  contains_in : (xs : List X) (x : X) → In xs x → Contains xs x
  contains_in [] x h = elim h [ ]
  contains_in (y ∷ ys) x (inl e) = (0, omega arith, e)
  contains_in (y ∷ ys) x (inr h) = let c = contains_in ys x h in (suc c.0, omega (arith, c.1), c.2)

  in_left : (xs ys : List X) (x : X) → In xs x → In (xs ++ ys) x
  in_left [] ys x h = elim h [ ]
  in_left (y ∷ xs) ys x (inl e) = inl e
  in_left (y ∷ xs) ys x (inr h) = inr (in_left xs ys x h)

  in_right : (xs ys : List X) (x : X) → In ys x → In (xs ++ ys) x
  in_right [] ys x h = h
  in_right (y ∷ xs) ys x h = inr (in_right xs ys x h)

  any_from : (test : X → Bool) (xs : List X) (x : X) → In xs x → test x ≡ true → list_any test xs ≡ true
  any_from test [] x i h = elim i [ ]
  any_from test (y ∷ ys) x (inl e) h = or_left (test y) (list_any test ys) (ap test e ∙ h)
  any_from test (y ∷ ys) x (inr i) h = or_right (test y) (list_any test ys) (any_from test ys x i h)

  any_gives : (test : X → Bool) (xs : List X) → list_any test xs ≡ true → (x : X) × In xs x × (test x ≡ true)
  any_gives test [] h = absurd (cc)
  any_gives test (y ∷ ys) h = elim (or_parts (test y) (list_any test ys) h) [
    | inl here ↦ (y, inl refl, here)
    | inr later ↦ let more = any_gives test ys later in (more.0, inr more.1, more.2)
  ]

  in_filter : (test : X → Bool) (xs : List X) (x : X) → In xs x → test x ≡ true → In (filter test xs) x
  in_filter test [] x i h = elim i [ ]
  in_filter test (y ∷ ys) x (inl same) h = ap_first (ap test same ∙ h)
    where
      ap_first : test y ≡ true → In (cond (test y) (y ∷ filter test ys) (filter test ys)) x
      ap_first passes = subst (λ b. In (cond b (y ∷ filter test ys) (filter test ys)) x) (sym passes) (inl same)
  in_filter test (y ∷ ys) x (inr more) h = kept (test y) (in_filter test ys x more h)
    where
      kept : (b : Bool) → In (filter test ys) x → In (cond b (y ∷ filter test ys) (filter test ys)) x
      kept true there = inr there
      kept false there = there

  filter_in : (test : X → Bool) (xs : List X) (x : X) → In (filter test xs) x → test x ≡ true
  filter_in test [] x i = elim i [ ]
  filter_in test (y ∷ ys) x i = by (filter_in test ys x) (test y) refl i
    where
      by : (In (filter test ys) x → test x ≡ true) → (b : Bool) → test y ≡ b → In (cond b (y ∷ filter test ys) (filter test ys)) x → test x ≡ true
      by rest true e (inl same) = ap test (sym same) ∙ e
      by rest true e (inr more) = rest more
      by rest false e more = rest more

in_map : {X Y : Type 0} (f : X → Y) (xs : List X) (x : X) → In xs x → In (map f xs) (f x)
in_map f [] x h = elim h [ ]
in_map f (y ∷ ys) x (inl e) = inl (ap f e)
in_map f (y ∷ ys) x (inr h) = inr (in_map f ys x h)

in_flat_map : {X Y : Type 0} (f : X → List Y) (xs : List X) (x : X) (y : Y) → In xs x → In (f x) y → In (flat_map f xs) y
in_flat_map f [] x y i h = elim i [ ]
in_flat_map f (z ∷ zs) x y (inl e) h = in_left (f z) (flat_map f zs) y (subst (λ w. In (f w) y) (sym e) h)
in_flat_map f (z ∷ zs) x y (inr i) h = in_right (f z) (flat_map f zs) y (in_flat_map f zs x y i h)

in_range : (a n k : ℕ) → a ≤ k → k < a + n → In (range_with_len a n) k
in_range a zero k low high = absurd (omega (arith, low, high))
in_range a (suc n) k low high = elim (cases_lt a k) [
  | inl later ↦ inr (in_range (a + 1) n k (omega (arith, later)) (omega (arith, high)))
  | inr here ↦ inl (omega (arith, here, low))
]

range_in : (a n k : ℕ) → In (range_with_len a n) k → (a ≤ k) × (k < a + n)
range_in a zero k h = elim h [ ]
range_in a (suc n) k (inl e) = (omega (arith, e), omega (arith, e))
range_in a (suc n) k (inr h) = let more = range_in (a + 1) n k h in (omega (arith, more.0), omega (arith, more.1))

-- ---- leaves

leads : (r : Leaves) (leaf : Leaf) → leads_to leaf r ≡ true → (r.root ≡ leaf.0) × (r.first ≤ leaf.1) × (leaf.1 < r.end)
leads r leaf h =
    let one = and_parts _ _ h in
    let two = and_parts _ _ one.1 in
    (same_nat r.root leaf.0 one.0, le_true r.first leaf.1 two.0, ltb-true leaf.1 r.end two.1)

leads_from : (r : Leaves) (leaf : Leaf) → r.root ≡ leaf.0 → r.first ≤ leaf.1 → leaf.1 < r.end → leads_to leaf r ≡ true
leads_from r leaf e low high = and_from _ _ (nat_same r.root leaf.0 e) (and_from _ _ (true_le r.first leaf.1 low) (lt-ltb leaf.1 r.end high))

holds_gives : (ranges : List Leaves) (root leaf : ℕ) → holds ranges (root, leaf) ≡ true → Holds ranges root leaf
holds_gives ranges root leaf h =
    let some = any_gives (leads_to (root, leaf)) ranges h in
    let is = leads some.0 (root, leaf) some.2 in
    (some.0, contains_in ranges some.0 some.1, is.0, is.1, is.2)

holds_from : (ranges : List Leaves) (root leaf : ℕ) → Holds ranges root leaf → holds ranges (root, leaf) ≡ true
holds_from ranges root leaf h = any_from (leads_to (root, leaf)) ranges h.0 (in_contains ranges h.0 h.1) (leads_from h.0 (root, leaf) h.2 h.3 h.4)

touches_gives : (d : Doing) (leaf : Leaf) → touches d leaf ≡ true → In (touched_leaves d) leaf
touches_gives d leaf h = elim (or_parts (holds d.reads leaf) (holds d.writes leaf) h) [
  | inl reads ↦ let some = any_gives (leads_to leaf) d.reads reads in at some.0 (in_left d.reads d.writes some.0 some.1) some.2
  | inr writes ↦ let some = any_gives (leads_to leaf) d.writes writes in at some.0 (in_right d.reads d.writes some.0 some.1) some.2
]
  where
    at : (r : Leaves) → In (d.reads ++ d.writes) r → leads_to leaf r ≡ true → In (touched_leaves d) leaf
    at r i h =
        let is = leads r leaf h in
        let number = in_range r.first (r.end - r.first) leaf.1 is.1 (omega (arith, is.1, is.2)) in
        let here : In (leaves_of r) (r.root, leaf.1) = in_map (λ n. (r.root, n)) (range_with_len r.first (r.end - r.first)) leaf.1 number in
        in_flat_map leaves_of (d.reads ++ d.writes) r leaf i (subst (λ root. In (leaves_of r) (root, leaf.1)) is.0 here)

-- ---- the first leaf of some

-- l isn't behind k
abbrev IsFirst : Leaf → Leaf → Type 0
IsFirst l k = is_before k l ≡ false

before_parts : (k l : Leaf) → is_before k l ≡ true → (k.0 < l.0) ⊎ ((k.0 ≡ l.0) × (k.1 < l.1))
before_parts k l h = elim (or_parts (nat_lt k.0 l.0) ((k.0 == l.0) && nat_lt k.1 l.1) h) [
  | inl less ↦ inl (ltb-true k.0 l.0 less)
  | inr same ↦ let both = and_parts _ _ same in inr (same_nat k.0 l.0 both.0, ltb-true k.1 l.1 both.1)
]

before_from : (k l : Leaf) → (k.0 < l.0) ⊎ ((k.0 ≡ l.0) × (k.1 < l.1)) → is_before k l ≡ true
before_from k l (inl h) = or_left (nat_lt k.0 l.0) _ (lt-ltb k.0 l.0 h)
before_from k l (inr h) = or_right (nat_lt k.0 l.0) _ (and_from _ _ (nat_same k.0 l.0 h.0) (lt-ltb k.1 l.1 h.1))

-- not behind one that isn't behind another
first_through : (j k l : Leaf) → is_before l k ≡ false → is_before k j ≡ false → is_before l j ≡ false
first_through j k l h g = not_true (is_before l j) (λ less. elim (before_parts l j less) [
  | inl root ↦ elim (cases_lt k.0 j.0) [
    | inl lower ↦ not_both (is_before k j) (before_from k j (inl lower)) g
    | inr higher ↦ not_both (is_before l k) (before_from l k (inl (omega (arith, root, higher)))) h
  ]
  | inr same ↦ elim (cases_lt k.0 j.0) [
    | inl lower ↦ not_both (is_before k j) (before_from k j (inl lower)) g
    | inr higher ↦ elim (cases_lt l.0 k.0) [
      | inl below ↦ not_both (is_before l k) (before_from l k (inl below)) h
      | inr level ↦
          let one : l.0 ≡ k.0 = omega (arith, same.0, higher, level) in
          let two : k.0 ≡ j.0 = omega (arith, same.0, one) in
          elim (cases_lt k.1 j.1) [
            | inl lower ↦ not_both (is_before k j) (before_from k j (inr (two, lower))) g
            | inr least ↦ not_both (is_before l k) (before_from l k (inr (one, omega (arith, same.1, least)))) h
          ]
    ]
  ]
])

not_before_itself : (l : Leaf) → is_before l l ≡ false
not_before_itself l = not_true (is_before l l) (λ less. elim (before_parts l l less) [ inl h ↦ omega (arith, h) | inr h ↦ omega (arith, h.1) ])

not_after : (k l : Leaf) → is_before k l ≡ true → is_before l k ≡ false
not_after k l h = not_true (is_before l k) (λ less. elim (before_parts k l h) [
  | inl a ↦ elim (before_parts l k less) [ inl b ↦ omega (arith, a, b) | inr b ↦ omega (arith, a, b.0) ]
  | inr a ↦ elim (before_parts l k less) [ inl b ↦ omega (arith, a.0, b) | inr b ↦ omega (arith, a.1, b.1) ]
])

-- two leaves of which neither is before the other
neither_before : (k l : Leaf) → is_before k l ≡ false → is_before l k ≡ false → (k.0 ≡ l.0) × (k.1 ≡ l.1)
neither_before k l h g =
    let roots : k.0 ≡ l.0 = elim (cases_lt k.0 l.0) [
      | inl less ↦ absurd (not_both (is_before k l) (before_from k l (inl less)) h)
      | inr more ↦ elim (cases_lt l.0 k.0) [ inl less ↦ absurd (not_both (is_before l k) (before_from l k (inl less)) g) | inr same ↦ omega (arith, more, same) ]
    ] in (
      roots,
      elim (cases_lt k.1 l.1) [
        | inl less ↦ absurd (not_both (is_before k l) (before_from k l (inr (roots, less))) h)
        | inr more ↦ elim (cases_lt l.1 k.1) [ inl less ↦ absurd (not_both (is_before l k) (before_from l k (inr (sym roots, less))) g) | inr same ↦ omega (arith, more, same) ]
      ],
    )

first_none : (ls : List Leaf) → first_of ls ≡ None → (l : Leaf) → In ls l → ⊥
first_none [] e l h = h
first_none (k ∷ ks) e l h = absurd (cc)

-- the first of some is one of them, and none is before it
record IsFirstOf (ls : List Leaf) (l : Leaf) : Type 0 where
  there : In ls l
  first : (k : Leaf) → In ls k → is_before k l ≡ false

first_some : (ls : List Leaf) (l : Leaf) → first_of ls ≡ Some l → IsFirstOf ls l
first_some [] l e = absurd (cc)
first_some (k ∷ ks) l e = by (first_some ks) (first_of ks) refl e
  where
    by : ((j : Leaf) → first_of ks ≡ Some j → IsFirstOf ks j) → (o : Option Leaf) → first_of ks ≡ o → ◌≡◌ {A = Option Leaf} (Some (option_map_or (lesser k) o k)) (Some l) → IsFirstOf (k ∷ ks) l
    by later None none is =
        let same : k ≡ l = cc in
        record { there = inl same; first = λ j h. elim h [ inl e ↦ subst (λ x. is_before x l ≡ false) (sym same ∙ e) (not_before_itself l) | inr more ↦ absurd (first_none ks none j more) ] }
    by later (Some j) some is = which (is_before j k) refl (cc)
      where
        rest : IsFirstOf ks j
        rest = later j some

        which : (b : Bool) → is_before j k ≡ b → lesser k j ≡ l → IsFirstOf (k ∷ ks) l
        which true e same =
            let is : j ≡ l = ap (λ b. cond b j k) (sym e) ∙ same in
            subst (IsFirstOf (k ∷ ks)) is (record { there = inr rest.there; first = λ i h. elim h [ inl at ↦ subst (λ x. is_before x j ≡ false) at (not_after j k e) | inr more ↦ rest.first i more ] })
        which false e same =
            let is : k ≡ l = ap (λ b. cond b j k) (sym e) ∙ same in
            subst (IsFirstOf (k ∷ ks)) is (record { there = inl refl; first = λ i h. elim h [ inl at ↦ subst (λ x. is_before x k ≡ false) at (not_before_itself k) | inr more ↦ first_through k j i (rest.first i more) e ] })

-- ---- conflicts of two events

module _ (e f : Event) (c d : Doing) (is : Does e c) (are : Does f d) where
  on_at : (root leaf : ℕ) → ConflictOn e f root leaf → conflict_at c d (root, leaf) ≡ true
  on_at root leaf h =
      let first = touched is root leaf h.1 in
      let second = touched are root leaf h.2 in
      let written : (holds c.writes (root, leaf) || holds d.writes (root, leaf)) ≡ true = elim h.3 [
        | inl w ↦ or_left (holds c.writes (root, leaf)) _ (holds_from c.writes root leaf (subst (λ rs. Holds rs root leaf) is.writes w))
        | inr w ↦ or_right (holds c.writes (root, leaf)) _ (holds_from d.writes root leaf (subst (λ rs. Holds rs root leaf) are.writes w))
      ] in
      and_from _ _ (and_from _ _ first second) written
    where
      touched : {x : Event} {y : Doing} → Does x y → (root leaf : ℕ) → TouchesLeaf x root leaf → touches y (root, leaf) ≡ true
      touched {x} {y} does root leaf (inl r) = or_left (holds y.reads (root, leaf)) _ (holds_from y.reads root leaf (subst (λ rs. Holds rs root leaf) does.reads r))
      touched {x} {y} does root leaf (inr w) = or_right (holds y.reads (root, leaf)) _ (holds_from y.writes root leaf (subst (λ rs. Holds rs root leaf) does.writes w))

  at_on : (root leaf : ℕ) → c.invocation ≢ d.invocation → conflict_at c d (root, leaf) ≡ true → ConflictOn e f root leaf
  at_on root leaf apart h =
      let all = and_parts _ _ h in
      let both = and_parts _ _ all.0 in
      let written : Writes e root leaf ⊎ Writes f root leaf = elim (or_parts (holds c.writes (root, leaf)) (holds d.writes (root, leaf)) all.1) [
        | inl w ↦ inl (subst (λ rs. Holds rs root leaf) (sym is.writes) (holds_gives c.writes root leaf w))
        | inr w ↦ inr (subst (λ rs. Holds rs root leaf) (sym are.writes) (holds_gives d.writes root leaf w))
      ] in
      (λ same. apart (sym is.invocation ∙ same ∙ are.invocation), touched is root leaf both.0, touched are root leaf both.1, written)
    where
      touched : {x : Event} {y : Doing} → Does x y → (root leaf : ℕ) → touches y (root, leaf) ≡ true → TouchesLeaf x root leaf
      touched {x} {y} does root leaf h = elim (or_parts (holds y.reads (root, leaf)) (holds y.writes (root, leaf)) h) [
        | inl r ↦ inl (subst (λ rs. Holds rs root leaf) (sym does.reads) (holds_gives y.reads root leaf r))
        | inr w ↦ inr (subst (λ rs. Holds rs root leaf) (sym does.writes) (holds_gives y.writes root leaf w))
      ]

  listed : (root leaf : ℕ) → ConflictOn e f root leaf → In (filter (conflict_at c d) (touched_leaves c)) (root, leaf)
  listed root leaf h =
      let at = on_at root leaf h in
      let both = and_parts _ _ (and_parts _ _ at).0 in
      in_filter (conflict_at c d) (touched_leaves c) (root, leaf) (touches_gives c (root, leaf) both.0) at

  -- where there is none, they conflict on none
  pub conflict_none : conflict c d ≡ None → (root leaf : ℕ) → ConflictOn e f root leaf → ⊥
  conflict_none none root leaf h = by (c.invocation == d.invocation) refl none
    where
      by : (b : Bool) → (c.invocation == d.invocation) ≡ b → cond b None (first_of (filter (conflict_at c d) (touched_leaves c))) ≡ None → ⊥
      by true same none = h.0 (is.invocation ∙ same_nat c.invocation d.invocation same ∙ sym are.invocation)
      by false other none = first_none (filter (conflict_at c d) (touched_leaves c)) none (root, leaf) (listed root leaf h)

  -- the one that is given is the first
  pub conflict_some : (l : Leaf) → conflict c d ≡ Some l → ConflictOn e f l.0 l.1 × ((root leaf : ℕ) → ConflictOn e f root leaf → is_before (root, leaf) l ≡ false)
  conflict_some l some = by (c.invocation == d.invocation) refl some
    where
      by : (b : Bool) → (c.invocation == d.invocation) ≡ b → cond b None (first_of (filter (conflict_at c d) (touched_leaves c))) ≡ Some l
          → ConflictOn e f l.0 l.1 × ((root leaf : ℕ) → ConflictOn e f root leaf → is_before (root, leaf) l ≡ false)
      by true same some = absurd (cc)
      by false other some =
          let first = first_some (filter (conflict_at c d) (touched_leaves c)) l some in (
            at_on l.0 l.1 (nat_other c.invocation d.invocation other) (filter_in (conflict_at c d) (touched_leaves c) l first.there),
            λ root leaf h. first.first (root, leaf) (listed root leaf h),
          )

-- ---- the events of a list

event_at : (events : List Event) (y : ℕ) → y < length events → (e : Event) × (slice_get events y ≡ Some e)
event_at events y l = elim (slice_get_cases events y).1 [ inl there ↦ (there.0, there.2) | inr past ↦ absurd (omega (arith, l, past.0)) ]

module _ (doing : ℕ → Doing) (a : ℕ) (events : List Event) (are : (k : ℕ) (e : Event) → slice_get events k ≡ Some e → Does e (doing (a + k))) where
  arrives_is : (y : ℕ) → ArrivesAt events y → (doing (a + y)).arrives ≡ true
  arrives_is y h = sym (are y h.0 h.1).arrives ∙ h.2

  is_arrival : (y : ℕ) → y < length events → (doing (a + y)).arrives ≡ true → ArrivesAt events y
  is_arrival y l h = let at = event_at events y l in (at.0, at.1, (are y at.0 at.1).arrives ∙ h)

  conflicts_is : (x y root leaf : ℕ) → ConflictAt events x y root leaf → conflicts doing (a + x) (a + y) ≡ true
  conflicts_is x y root leaf h = by (conflict (doing (a + x)) (doing (a + y))) refl
    where
      by : (o : Option Leaf) → conflict (doing (a + x)) (doing (a + y)) ≡ o → is_some o ≡ true
      by None none = absurd (conflict_none h.0 h.1 (doing (a + x)) (doing (a + y)) (are x h.0 h.2) (are y h.1 h.3) none root leaf h.4)
      by (Some l) some = refl

  leaf_of : (x y : ℕ) → x < length events → y < length events → conflicts doing (a + x) (a + y) ≡ true → (root leaf : ℕ) × ConflictAt events x y root leaf
  leaf_of x y l k h = by (conflict (doing (a + x)) (doing (a + y))) refl h
    where
      by : (o : Option Leaf) → conflict (doing (a + x)) (doing (a + y)) ≡ o → is_some o ≡ true → (root leaf : ℕ) × ConflictAt events x y root leaf
      by None none h = absurd (cc)
      by (Some m) some h =
          let e = event_at events x l in
          let f = event_at events y k in
          let first = conflict_some e.0 f.0 (doing (a + x)) (doing (a + y)) (are x e.0 e.1) (are y f.0 f.1) m some in
          (m.0, m.1, (e.0, f.0, e.1, f.1, first.0))

  matters_is : (y : ℕ) → ArrivesAt events y ⊎ ConflictsEarlier events y → matters doing a (a + y) ≡ true
  matters_is y (inl h) = or_left _ _ (arrives_is y h)
  matters_is y (inr h) =
      or_right ((doing (a + y)).arrives) _ (any_from (λ x. conflicts doing x (a + y)) (range_with_len a ((a + y) - a)) (a + h.0)
      (in_range a ((a + y) - a) (a + h.0) (omega arith) (omega (arith, h.3)))
      (conflicts_is h.0 y h.1 h.2 h.4))

  is_mattering : (y : ℕ) → y < length events → matters doing a (a + y) ≡ true → ArrivesAt events y ⊎ ConflictsEarlier events y
  is_mattering y l h = elim (or_parts ((doing (a + y)).arrives) _ h) [
    | inl arrives ↦ inl (is_arrival y l arrives)
    | inr earlier ↦
        let some = any_gives (λ x. conflicts doing x (a + y)) (range_with_len a ((a + y) - a)) earlier in
        let at = range_in a ((a + y) - a) some.0 some.1 in
        let back : a + (some.0 - a) ≡ some.0 = omega (arith, at.0) in
        let found = leaf_of (some.0 - a) y (omega (arith, at.0, at.1, l)) l (subst (λ x. conflicts doing x (a + y) ≡ true) (sym back) some.2) in
        inr (some.0 - a, found.0, found.1, omega (arith, at.0, at.1), found.2)
  ]

  -- before the first event that matters none does
  quiet : (n y : ℕ) → IsFreeBefore events n → n ≤ length events → a ≤ y → y < a + n → matters doing a y ≡ false
  quiet n y free few low high =
      let back : a + (y - a) ≡ y = omega (arith, low) in
      not_true (matters doing a y) (λ h. free (y - a) (omega (arith, low, high)) (is_mattering (y - a) (omega (arith, low, high, few)) (subst (λ x. matters doing a x ≡ true) (sym back) h)))

-- the least position that passes is told by what passes
least_found : (test : ℕ → Bool) (low high m n : ℕ) → IsLeast test low high m → low ≤ n → n < high → test n ≡ true → ((k : ℕ) → low ≤ k → k < n → test k ≡ false) → m ≡ n
least_found test low high m n is from to passes before = elim (cases_lt m n) [
  | inl less ↦ absurd (not_both (test m) (is.passes (omega (arith, less, to))) (before m is.from less))
  | inr more ↦ elim (cases_lt n m) [ inl less ↦ absurd (not_both (test n) passes (is.before n from less)) | inr same ↦ omega (arith, more, same) ]
]

least_none : (test : ℕ → Bool) (low high m : ℕ) → IsLeast test low high m → ((k : ℕ) → low ≤ k → k < high → test k ≡ false) → m ≡ high
least_none test low high m is none = elim (cases_lt m high) [
  | inl less ↦ absurd (not_both (test m) (is.passes less) (none m is.from less))
  | inr more ↦ omega (arith, more, is.to)
]

module _ (doing : ℕ → Doing) (a b : ℕ) (events : List Event) (stretch : a ≤ b) (long : length events ≡ b - a) (are : (k : ℕ) (e : Event) → slice_get events k ≡ Some e → Does e (doing (a + k))) where
  first_is : IsLeast (matters doing a) a b (least_of (matters doing a) a b)
  first_is = least_is (matters doing a) a b stretch

  -- the first event that matters
  at_first : (y : ℕ) → y < length events → ArrivesAt events y ⊎ ConflictsEarlier events y → IsFreeBefore events y → order_by doing a b ≡ answer_at doing a (a + y)
  unfolding order_by
  at_first y l matter free =
      let here : least_of (matters doing a) a b ≡ a + y
      = least_found (matters doing a) a b _ (a + y) first_is (omega arith) (omega (arith, l, long)) (matters_is doing a events are y matter)
      (λ k low high. quiet doing a events are y k free (omega (arith, l)) low high) in
      let other : ((a + y) == b) ≡ false = other_nat (a + y) b (λ e. omega (arith, e, l, long)) in
      ap (answer_by doing a b) here ∙ ap (λ t. cond t Free (answer_at doing a (a + y))) other

  arrival_within : (y : ℕ) → ArrivesAt events y → y < length events
  arrival_within y h = slice_get_within events y h.0 h.1

  order_found : (answer : Answer) → IsOrder events answer → order_by doing a b ≡ behind a answer
  unfolding order_by
  order_found Free h =
      let last : least_of (matters doing a) a b ≡ b
      = least_none (matters doing a) a b _ first_is (λ k low high. quiet doing a events are (length events) k (h (length events)) (omega arith) low (omega (arith, high, long, stretch))) in
      ap (answer_by doing a b) last ∙ ap (λ t. cond t Free (answer_at doing a b)) (nat_same b b refl)
  order_found (Barrier y) h =
      at_first y (arrival_within y h.0) (inl h.0) h.1 ∙ ap (λ t. cond t (Barrier (a + y)) (with_earlier doing (a + y) (least_of (λ z. conflicts doing z (a + y)) a (a + y)))) (arrives_is doing a events are y h.0)
  order_found (Conflict x y root leaf) h =
      let at = h.3 in
      let within : y < length events = slice_get_within events y at.1 at.3 in
      let free : (doing (a + y)).arrives ≡ false = not_true _ (λ arrives. h.1 (is_arrival doing a events are y within arrives)) in
      let first = least_is (λ z. conflicts doing z (a + y)) a (a + y) (omega arith) in
      let here : least_of (λ z. conflicts doing z (a + y)) a (a + y) ≡ a + x
      = least_found (λ z. conflicts doing z (a + y)) a (a + y) _ (a + x) first (omega arith) (omega (arith, h.2)) (conflicts_is doing a events are x y root leaf at)
      (λ k low high. not_true _ (λ some.
      let back : a + (k - a) ≡ k = omega (arith, low) in
      let found = leaf_of doing a events are (k - a) y (omega (arith, low, high, h.2, within)) within (subst (λ z. conflicts doing z (a + y) ≡ true) (sym back) some) in
      h.4 (k - a) found.0 found.1 (omega (arith, low, high)) found.2)) in
      at_first y within (inr (x, root, leaf, h.2, at)) h.0
      ∙ ap (λ t. cond t (Barrier (a + y)) (with_earlier doing (a + y) (least_of (λ z. conflicts doing z (a + y)) a (a + y)))) free
      ∙ ap (with_earlier doing (a + y)) here
      ∙ leaf_is x y root leaf at h.5
    where
      leaf_is : (x y root leaf : ℕ) → ConflictAt events x y root leaf → ((r l : ℕ) → IsLeafBefore r l root leaf → ConflictAt events x y r l → ⊥) → conflict_answer doing (conflict (doing (a + x)) (doing (a + y))) (a + x) (a + y) ≡ Conflict (a + x) (a + y) root leaf
      leaf_is x y root leaf at none = by (conflict (doing (a + x)) (doing (a + y))) refl
        where
          by : (o : Option Leaf) → conflict (doing (a + x)) (doing (a + y)) ≡ o → conflict_answer doing o (a + x) (a + y) ≡ Conflict (a + x) (a + y) root leaf
          by None is = absurd (conflict_none at.0 at.1 (doing (a + x)) (doing (a + y)) (are x at.0 at.2) (are y at.1 at.3) is root leaf at.4)
          by (Some l) is =
              let first = conflict_some at.0 at.1 (doing (a + x)) (doing (a + y)) (are x at.0 at.2) (are y at.1 at.3) l is in
              let here = first.1 root leaf at.4 in
              let there : is_before l (root, leaf) ≡ false = not_true (is_before l (root, leaf)) (λ less. none l.0 l.1 (before_parts l (root, leaf) less) (at.0, at.1, at.2, at.3, first.0)) in
              let same = neither_before l (root, leaf) there here in
              ap (λ r. Conflict (a + x) (a + y) r l.1) same.0 ∙ ap (λ n. Conflict (a + x) (a + y) root n) same.1

-- the events of an answer are among those of the list
pub order_among : (events : List Event) (n : ℕ) (answer : Answer) → length events ≤ n → IsOrder events answer → IsAmong n answer
order_among events n Free few h = tt
order_among events n (Barrier y) few h = let within = slice_get_within events y h.0.0 h.0.1 in omega (arith, within, few)
order_among events n (Conflict x y root leaf) few h =
    let within = slice_get_within events y h.3.1 h.3.3 in
    (omega (arith, h.2, within, few), omega (arith, within, few))

-- what was found of the events from a on, before b
pub order_is : (doing : ℕ → Doing) (a b : ℕ) (events : List Event) (answer : Answer) → a ≤ b → length events ≡ b - a → ((k : ℕ) (e : Event) → slice_get events k ≡ Some e → Does e (doing (a + k)))
    → IsOrder events answer → order_by doing a b ≡ behind a answer
order_is doing a b events answer stretch long are h = order_found doing a b events stretch long are answer h
