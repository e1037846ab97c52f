-- The position that a run from the start on finds is that which is searched for.
use Rattle.std.proofs.Common.{◌≡◌, ◌⊎◌, ◌≤◌, ◌<◌, ◌==◌, ◌∙◌, ◌+◌, ◌-◌, ℕ, Bool, true, false, cond, max, List, length, Option, Some, None, refl, ap, sym, subst, inl, inr, arith}
use Rattle.std.specs.Prelude.{◌&&◌, ◌||◌, nat_le, nat_lt, slice_index}
use Rattle.std.proofs.lemmas.Bool.{and_parts, cases_lt, eqb-true, ltb-true}
use Rattle.spv_base.proofs.Exports.{same_number}
use Rattle.spv_group.specs.Group.{Held as Group, Undoing, group_at}
use Rattle.spv_group.specs.Positions.{greatest_of}
use Rattle.spv_search.specs.Again.{AreMovers, IsFoundAgain, IsFoundOf, IsTarget, asks_for_next, is_mover, later_of, mover_of, passes_before, wanted}
use Rattle.spv_search.specs.Moves.{moves_between, moves_next}
use Rattle.spv_search.specs.Own.{own_backward, own_before, own_next}
use Rattle.spv_search.specs.Sights.{IsLeft}
use Rattle.spv_search.specs.Targets.{passes_backward}
use Rattle.spv_search.specs.declared.again.Found.{Found}
use Rattle.spv_search.specs.declared.again.Target.{Target}
use Rattle.spv_search.specs.declared.backward.Way.{Way}
use Rattle.spv_search.specs.declared.commands.Backward.{Backward}
use Rattle.spv_search.specs.declared.commands.Backward.TheVariants.{Rstepi, Rstep, Rnext, Rfinish, Rcontinue}
use Rattle.spv_search.proofs.AgainLemmas.{lt_is}
use Rattle.spv_search.proofs.CountLemmas.{counts, split}
use Rattle.spv_search.proofs.TargetLemmas.{greatest_found}

-- ---- where a command asks for nothing of the event at a position

module _ (test late own : ℕ → Bool) (next : Bool) (g : Group) (i p k : ℕ) (f : Found) (is : IsFoundAgain late own next p g i k f) where
  plain_target : ((m : ℕ) → test m ≡ late m) → ((m : ℕ) → k < m → m < p → test m ≡ false) → f.last ≡ greatest_of test 0 p
  plain_target same left = greatest_found test 0 p f.last (omega arith) is.inside (λ l. same f.last ∙ is.passes l) (λ m above below. by_order m above below (cases_lt k m))
    where
      by_order : (m : ℕ) → f.last < m → m < p → (k < m) ⊎ (m ≤ k) → test m ≡ false
      by_order m above below (inl l) = left m l below
      by_order m above below (inr l) = same m ∙ is.none m above l below

  plain_before : 0 < p → f.last < p
  plain_before some = by_order (cases_lt 0 f.last)
    where
      by_order : (0 < f.last) ⊎ (f.last ≤ 0) → f.last < p
      by_order (inl l) = is.inside l
      by_order (inr l) = omega arith

-- ---- movers

mover_inside : (ms : List ℕ) (d : ℕ) → 0 < d → d < length ms + 1 → mover_of ms d ≡ Some (slice_index ms (length ms - d))
mover_inside ms d some few = rw (lt_is 0 d some, lt_is d (length ms + 1) few) refl

module _ (g : Group) (i k p number count : ℕ) (ms : List ℕ) (are : AreMovers g i k ms) (within : k ≤ p) (counted : count ≡ moves_between g i k p) where
  abbrev own : ℕ → Bool
  own m = moves_next (group_at m g) i && moves_between g i m p == number

  -- it is what is asked for
  mover_at : (d : ℕ) → d ≡ number - count → 0 < d → d < length ms + 1 → (slice_index ms (length ms - d) < k) × (own (slice_index ms (length ms - d)) ≡ true)
  mover_at d is some few =
      let n = length ms - d in
      let x = slice_index ms (length ms - d) in
      let l : n < length ms = omega (arith, some, few) in
      let below : x < k = are.below n l in
      let behind : moves_between g i x k + n ≡ length ms = are.behind n l in
      let both = split g i (k - x) x k p (omega (arith, below)) within in
      let asked : moves_between g i x p ≡ number = omega (arith, both, behind, counted, is, some, few) in
      (below, rw (are.move n l) (subst (λ j. (moves_between g i x p == j) ≡ true) asked (same_number (moves_between g i x p))))

  by_test : (b : Bool) → (nat_lt 0 (number - count) && nat_lt (number - count) (length ms + 1)) ≡ b → (m : ℕ) → cond b (Some (slice_index ms (length ms - (number - count)))) None ≡ Some m → (m < k) × (own m ≡ true)
  by_test true e m is =
      let both = and_parts (nat_lt 0 (number - count)) (nat_lt (number - count) (length ms + 1)) e in
      let here : slice_index ms (length ms - (number - count)) ≡ m = cc in
      subst (λ j. (j < k) × (own j ≡ true)) here (mover_at (number - count) refl (ltb-true 0 (number - count) both.0) (ltb-true (number - count) (length ms + 1) both.1))
  by_test false e m is = absurd (cc)

  pub mover_passes : (m : ℕ) → mover_of ms (number - count) ≡ Some m → (m < k) × (own m ≡ true)
  mover_passes m is = by_test (nat_lt 0 (number - count) && nat_lt (number - count) (length ms + 1)) refl m is

  -- and nothing behind it
  by_own : (m : ℕ) → ((j : ℕ) → mover_of ms (number - count) ≡ Some j → j < m) → m < k → (b : Bool) → own m ≡ b → own m ≡ false
  by_own m above below false e = e
  by_own m above below true e =
      let both = and_parts (moves_next (group_at m g) i) (moves_between g i m p == number) e in
      let is : moves_between g i m p ≡ number = eqb-true (moves_between g i m p) number both.1 in
      let ends = split g i (k - m) m k p (omega (arith, below)) within in
      let one : 1 ≤ moves_between g i m k = counts g i m k both.0 below in
      let whole = split g i m 0 m k (omega arith) (omega (arith, below)) in
      let all = are.all in
      let d : number - count ≡ moves_between g i m k = omega (arith, is, ends, counted) in
      let some : 0 < number - count = omega (arith, d, one) in
      let few : number - count < length ms + 1 = omega (arith, d, whole, all) in
      let l : length ms - (number - count) < length ms = omega (arith, some, few) in
      let earlier : slice_index ms (length ms - (number - count)) < m = above (slice_index ms (length ms - (number - count))) (mover_inside ms (number - count) some few) in
      let behind : moves_between g i (slice_index ms (length ms - (number - count))) k + (length ms - (number - count)) ≡ length ms = are.behind (length ms - (number - count)) l in
      let parted = split g i (m - slice_index ms (length ms - (number - count))) (slice_index ms (length ms - (number - count))) m k (omega (arith, earlier)) (omega (arith, below)) in
      let more : 1 ≤ moves_between g i (slice_index ms (length ms - (number - count))) m = counts g i (slice_index ms (length ms - (number - count))) m (are.move (length ms - (number - count)) l) earlier in
      absurd (omega (arith, behind, parted, more, d, few, some))

  pub mover_is_last : (m : ℕ) → ((j : ℕ) → mover_of ms (number - count) ≡ Some j → j < m) → m < k → own m ≡ false
  mover_is_last m above below = by_own m above below (own m) refl

-- ---- both

or_left : (a b : Bool) → (a || b) ≡ false → a ≡ false
or_left true b e = e
or_left false b e = refl

neither : (a b : Bool) → a ≡ false → b ≡ false → (a || b) ≡ false
neither true b e f = e
neither false b e f = f

on_left : (a b : Bool) → (a || false) ≡ true → (a || b) ≡ true
on_left true b e = refl
on_left false b e = absurd (cc)

on_right : (a b : Bool) → b ≡ true → (a || b) ≡ true
on_right true b e = refl
on_right false b e = e

le_is : (a b : ℕ) → a ≤ b → nat_le a b ≡ true
le_is a b l = grind arith

le_not : (a b : ℕ) → b < a → nat_le a b ≡ false
le_not a b l = grind arith

module _ (hit own : ℕ → Bool) (next : Bool) (g : Group) (i p k : ℕ) (f : Found) (mover : Option ℕ) (is : IsFoundAgain (λ m. hit m || false) (λ m. false) next p g i k f) (within : k ≤ p) (some : 0 < p)
    (passes : (m : ℕ) → mover ≡ Some m → (m < k) × (own m ≡ true)) (last : (m : ℕ) → ((j : ℕ) → mover ≡ Some j → j < m) → m < k → own m ≡ false) (at : k < p → own k ≡ false)
    (left : (m : ℕ) → k < m → m < p → (hit m || own m) ≡ false) where
  abbrev test : ℕ → Bool
  test m = hit m || own m

  -- what is asked for holds nowhere behind the mover
  not_own : (m : ℕ) → ((j : ℕ) → mover ≡ Some j → j < m) → m ≤ k → m < p → own m ≡ false
  not_own m above l below = elim (cases_lt m k) [
    | inl b ↦ last m above b
    | inr b ↦ (let same : k ≡ m = omega arith in subst (λ j. own j ≡ false) same (at (omega (arith, same, below))))
  ]

  nothing : (m : ℕ) → f.last < m → ((j : ℕ) → mover ≡ Some j → j < m) → m < p → test m ≡ false
  nothing m above beyond below = elim (cases_lt k m) [
    | inl l ↦ left m l below
    | inr l ↦ neither (hit m) (own m) (or_left (hit m) false (is.none m above l below)) (not_own m beyond l below)
  ]

  before : f.last < p
  before = plain_before (λ m. hit m || false) (λ m. hit m || false) (λ m. false) next g i p k f is some

  -- the last that hits
  at_last : ((j : ℕ) → mover ≡ Some j → j < f.last) ⊎ (mover ≡ None) → (f.last ≡ greatest_of test 0 p) × (false ≡ own f.last)
  at_last order = (
    greatest_found test 0 p f.last (omega arith) is.inside (λ l. on_left (hit f.last) (own f.last) (is.passes l)) (λ m above below. nothing m above (λ j e. (let l : j ≤ f.last = below_last j e in omega (arith, l, above))) below),
    sym (not_own f.last (λ j e. strictly j e) is.within before),
  )
    where
      strictly : (j : ℕ) → mover ≡ Some j → j < f.last
      strictly j e = elim order [ inl l ↦ l j e | inr none ↦ absurd (cc) ]

      below_last : (j : ℕ) → mover ≡ Some j → j ≤ f.last
      below_last j e = let l : j < f.last = strictly j e in omega (arith, l)

  -- the mover
  at_mover : (x : ℕ) → mover ≡ Some x → f.last ≤ x → (x ≡ greatest_of test 0 p) × (true ≡ own x)
  at_mover x e l =
      let both = passes x e in
      let below : x < k = both.0 in (
        greatest_found test 0 p x (omega arith) (λ _. omega (arith, below, within)) (λ _. on_right (hit x) (own x) both.1)
            (λ m above b. nothing m (omega (arith, above, l)) (λ j other. (let same : x ≡ j = cc in omega (arith, same, above))) b),
        sym both.1,
      )

  pub both_target : (o : Option ℕ) → mover ≡ o → (later_of f.last o ≡ greatest_of test 0 p) × (later_of f.last o < p) × (is_mover f.last o ≡ own (later_of f.last o))
  both_target None e =
      let there = at_last (inr e) in
      let same : f.last ≡ max f.last 0 = omega arith in
      let inside = before in
      (sym same ∙ there.0, omega (arith, same, inside), subst (λ m. false ≡ own m) same there.1)
  both_target (Some x) e = elim (cases_lt x f.last) [
    | inl l ↦ (
        let there = at_last (inl (λ j other. (let same : x ≡ j = cc in omega (arith, same, l)))) in
        let same : f.last ≡ max f.last x = omega (arith, l) in
        let inside = before in
        (sym same ∙ there.0, omega (arith, same, inside), le_not f.last x l ∙ subst (λ m. false ≡ own m) same there.1))
    | inr l ↦ (
        let there = at_mover x e l in
        let same : x ≡ max f.last x = omega (arith, l) in
        let below : x < k = (passes x e).0 in
        (sym same ∙ there.0, omega (arith, same, below, within), le_is f.last x l ∙ subst (λ m. true ≡ own m) same there.1))
  ]

-- ---- by the command

-- the same run at another position has the same events
movers_in : (g : Group) (k i n : ℕ) (ms : List ℕ) → AreMovers (group_at k g) i n ms → AreMovers g i n ms
movers_in g k i n ms are = record { all = are.all; below = are.below; move = are.move; behind = are.behind }

found_in : (test own : ℕ → Bool) (next : Bool) (p : ℕ) (g : Group) (k i n : ℕ) (f : Found) → IsFoundAgain test own next p (group_at k g) i n f → IsFoundAgain test own next p g i n f
found_in test own next p g k i n f is = record { within = is.within; inside = is.inside; passes = is.passes; none = is.none; done = is.done; movers = λ asked. movers_in g k i n f.movers.items (is.movers asked) }

or_false : (b : Bool) → (b || false) ≡ b
or_false true = refl
or_false false = refl

module _ (hit : Group → Bool) (i : ℕ) (from now : Undoing) (w : Way) (f : Found) (target : Target) where
  abbrev Left : Backward → Type 0
  Left command = IsLeft (passes_backward hit command i from.group) i from now w

  abbrev Again : Backward → Type 0
  Again command = IsFoundOf hit command i from.group from.group.position from.group now.group.position f

  abbrev Next : Backward → Type 0
  Next command = now.group.position < from.group.position → own_next command i from.group now.group ≡ false

  module _ (command : Backward) (left : Left command) (is : Again command) (same : (m : ℕ) → passes_backward hit command i from.group m ≡ passes_before hit command i from.group from.group m)
      (alike : own_before command i from.group (group_at f.last from.group) ≡ own_backward command i from.group (group_at f.last from.group)) (here : target.position ≡ f.last) (done : target.done ≡ f.done) where
    plain : IsTarget hit command i from.group target
    plain = record {
      position = here ∙ plain_target (passes_backward hit command i from.group) (passes_before hit command i from.group from.group) (λ m. own_before command i from.group (group_at m from.group)) (asks_for_next command) from.group i from.group.position now.group.position f is same left.none;
      before =
          (let some = left.some in
          let earlier = left.earlier in
          let inside = plain_before (passes_backward hit command i from.group) (passes_before hit command i from.group from.group) (λ m. own_before command i from.group (group_at m from.group)) (asks_for_next command) from.group i from.group.position now.group.position f is (omega (arith, some, earlier)) in
          omega (arith, inside, here));
      done = done ∙ is.done ∙ alike ∙ ap (λ m. own_backward command i from.group (group_at m from.group)) (sym here);
    }

  by_command : (command : Backward) → Left command → Next command → Again command → target.position ≡ later_of f.last (mover_of f.movers.items (wanted command w))
      → target.done ≡ (is_mover f.last (mover_of f.movers.items (wanted command w)) || f.done) → IsTarget hit command i from.group target
  by_command (Rstepi n) left next is latest done = record {
    position = latest ∙ found.0;
    before = let inside = found.1 in omega (arith, inside, latest);
    done =
        done ∙ ap (λ b. is_mover f.last (mover_of f.movers.items (n - w.count)) || b) is.done ∙ or_false (is_mover f.last (mover_of f.movers.items (n - w.count))) ∙ found.2
        ∙ ap (λ m. moves_next (group_at m g) i && moves_between g i m p == n) (sym latest);
  }
    where
      g : Group
      g = from.group

      k : ℕ
      k = now.group.position

      p : ℕ
      p = from.group.position

      counted : w.count ≡ moves_between from.group i now.group.position from.group.position
      counted = subst (λ (x : Group). w.count ≡ moves_between x i now.group.position from.group.position) left.same left.way.count

      found : (later_of f.last (mover_of f.movers.items (n - w.count)) ≡ greatest_of (passes_backward hit (Rstepi n) i from.group) 0 from.group.position)
          × (later_of f.last (mover_of f.movers.items (n - w.count)) < from.group.position)
          × (is_mover f.last (mover_of f.movers.items (n - w.count)) ≡ own_backward (Rstepi n) i from.group (group_at (later_of f.last (mover_of f.movers.items (n - w.count))) from.group))
      found =
          let movers = is.movers refl in
          let some = left.some in
          let earlier = left.earlier in
          both_target (λ m. hit (group_at m g)) (λ m. moves_next (group_at m g) i && moves_between g i m p == n) true g i p k f (mover_of f.movers.items (n - w.count)) is left.earlier (omega (arith, some, earlier))
          (mover_passes g i k p n w.count f.movers.items movers left.earlier counted) (mover_is_last g i k p n w.count f.movers.items movers left.earlier counted)
          (λ l. subst (λ (x : Group). (moves_next x i && moves_between g i x.position p == n) ≡ false) left.same (next l)) left.none (mover_of f.movers.items (n - w.count)) refl
  by_command Rstep left next is latest done = plain Rstep left is (λ m. refl) refl (latest ∙ omega arith) done
  by_command Rnext left next is latest done = plain Rnext left is (λ m. refl) refl (latest ∙ omega arith) done
  by_command Rfinish left next is latest done = plain Rfinish left is (λ m. refl) refl (latest ∙ omega arith) done
  by_command Rcontinue left next is latest done = plain Rcontinue left is (λ m. refl) refl (latest ∙ omega arith) done

  pub again_target : (command : Backward) (n : ℕ) → Left command → Next command → IsFoundOf hit command i from.group from.group.position now.group n f → n ≡ now.group.position
      → target.position ≡ later_of f.last (mover_of f.movers.items (wanted command w)) → target.done ≡ (is_mover f.last (mover_of f.movers.items (wanted command w)) || f.done)
      → IsTarget hit command i from.group target
  again_target command n left next is there latest done =
      by_command command left next
      (found_in (passes_before hit command i from.group from.group) (λ m. own_before command i from.group (group_at m from.group)) (asks_for_next command) from.group.position from.group now.group.position i now.group.position f
      (subst (λ (x : Group). IsFoundOf hit command i from.group from.group.position x now.group.position f) left.same
      (subst (λ (j : ℕ). IsFoundOf hit command i from.group from.group.position now.group j f) there is)))
      latest done
