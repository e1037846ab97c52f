-- A search back among the events that are kept.
use Rattle.std.proofs.Common.{◌≡◌, ◌⊎◌, ◌≤◌, ◌<◌, ◌∙◌, ◌+◌, ℕ, Bool, true, false, Option, Some, refl, ap, sym, subst, inl, inr, arith}
use Rattle.std.specs.Prelude.{◌||◌}
use Rattle.std.specs.Option.{option_map_or}
use Rattle.std.proofs.lemmas.Bool.{cases_lt}
use Rattle.spv_base.specs.declared.happenings.Happening.{Happening}
use Rattle.spv_dbg.specs.Tables.{Tables}
use Rattle.spv_group.specs.Group.{Held as Group, Undoing, entries_in, group_at}
use Rattle.spv_group.specs.Positions.{greatest_of}
use Rattle.spv_group.specs.Run.{happening_at}
use Rattle.spv_search.specs.declared.backward.Way.{Way}
use Rattle.spv_search.specs.declared.commands.Backward.{Backward}
use Rattle.spv_search.specs.declared.focus.Key.{Key}
use Rattle.spv_search.specs.declared.hits.Looked.{Looked}
use Rattle.spv_search.specs.Motion.{HasReturned}
use Rattle.spv_search.specs.Moves.{moves, moves_between, moves_next}
use Rattle.spv_search.specs.Own.{own_backward}
use Rattle.spv_search.specs.Sights.{IsNoted, IsWay}
use Rattle.spv_search.specs.Stops.{IsLooked}
use Rattle.spv_search.specs.Targets.{passes_backward}
use Rattle.spv_search.proofs.CountLemmas.{none_between, one, one_before}
use Rattle.spv_search.proofs.TargetLemmas.{greatest_found}

-- one event more on the way
pub way_back : (i p : ℕ) (from to : Undoing) (h : Happening) (w new : Way) → HasReturned h from to → IsWay i p from.group w → from.group.position ≤ p
    → new.count ≡ w.count + one (moves i h) → new.next ≡ moves i h → IsWay i p to.group new
way_back i p from to h w new gone is within count next = record { count = subst (λ (g : Group). new.count ≡ moves_between g i to.group.position p) (sym gone.same) counted; next = λ _. next ∙ sym moved }
  where
    n : ℕ
    n = to.group.position

    event : happening_at from.group.program (entries_in from.group) to.group.position ≡ Some h
    event = gone.event

    here : from.group.position ≡ to.group.position + 1
    here = gone.position

    before : w.count ≡ moves_between from.group i (to.group.position + 1) p
    before = is.count ∙ ap (λ k. moves_between from.group i k p) here

    counted : new.count ≡ moves_between from.group i to.group.position p
    counted =
        let more = one_before from.group i to.group.position p h (omega (arith, here, within)) event in
        omega (arith, before, more, count)

    there : happening_at to.group.program (entries_in to.group) to.group.position ≡ Some h
    there = subst (λ (g : Group). happening_at g.program (entries_in g) to.group.position ≡ Some h) (sym gone.same) event

    moved : moves_next to.group i ≡ moves i h
    moved = ap (λ o. option_map_or (moves i) o false) there

-- a search back from one position is at another, and nothing passes between them
pub record IsBack (test : ℕ → Bool) (i : ℕ) (from now : Undoing) (w : Way) : Type 0 where
  pub same : now.group ≡ group_at now.group.position from.group
  pub limit : now.limit ≡ from.limit
  pub earlier : now.group.position ≤ from.group.position
  pub kept : now.kept ≡ from.kept
  pub way : IsWay i from.group.position now.group w
  pub few : w.count + now.group.position ≤ 4194304
  pub none : (m : ℕ) → now.group.position < m → m < from.group.position → test m ≡ false

pub back_begins : (test : ℕ → Bool) (i : ℕ) (from : Undoing) (w : Way) → w.count ≡ 0 → from.group.position ≤ 4194304 → IsBack test i from from w
back_begins test i from w none few = record {
  same = refl;
  limit = refl;
  earlier = omega arith;
  kept = refl;
  way = record { count = none ∙ sym (none_between from.group i from.group.position); next = λ l. absurd (omega arith) };
  few = omega arith;
  none = λ m a b. absurd (omega arith);
}

-- the group searched from
pub first_group : (from now : Undoing) → now.group ≡ group_at now.group.position from.group → group_at from.group.position now.group ≡ from.group
first_group from now same = ap (λ (g : Group). group_at from.group.position g) same

-- the tests of another state of what hits, and of a group of the same run
pub same_test : (hit other : Group → Bool) (command : Backward) (i m : ℕ) (g first : Group) → ((x : Group) → hit x ≡ other x) → g ≡ first → passes_backward hit command i g m ≡ passes_backward other command i first m
same_test hit other command i m g first same is =
    ap (λ (x : Group). passes_backward hit command i x m) is ∙ ap (λ b. b || own_backward command i first (group_at m first)) (same (group_at m first))

-- what is known of a position that was left, by the group there
pub looked_back : (t : Tables) (hit other : Group → Bool) (command : Backward) (i p : ℕ) (u g : Group) (here : Option Key) (w : Way) (looked : Looked) → u ≡ group_at u.position g → g.position ≡ u.position + 1
    → ((x : Group) → hit x ≡ other x) → IsNoted t command i (group_at p g) g here → IsWay i p g w → g.position < p
    → (IsNoted t command i (group_at p u) (group_at (u.position + 1) u) here → IsWay i p (group_at (u.position + 1) u) w → u.position + 1 < p
    → IsLooked (hit (group_at (u.position + 1) u)) (own_backward command i (group_at p u) (group_at (u.position + 1) u)) looked)
    → IsLooked (other g) (own_backward command i (group_at p g) g) looked
looked_back t hit other command i p u g here w looked back position same noted way below is =
    let there : group_at (u.position + 1) u ≡ g = ap (λ (x : Group). group_at (u.position + 1) x) back ∙ ap (λ n. group_at n g) (sym position) in
    let first : group_at p u ≡ group_at p g = ap (λ (x : Group). group_at p x) back in
    let noted_there : IsNoted t command i (group_at p u) (group_at (u.position + 1) u) here
    = subst (λ (x : Group). IsNoted t command i (group_at p u) x here) (sym there) (subst (λ (x : Group). IsNoted t command i x g here) (sym first) noted) in
    let known = is noted_there (subst (λ (x : Group). IsWay i p x w) (sym there) way) (omega (arith, below, position)) in
    subst (λ (b : Bool). IsLooked b (own_backward command i (group_at p g) g) looked) (same g)
    (subst (λ (x : Group). IsLooked (hit g) (own_backward command i x g) looked) first
    (subst (λ (x : Group). IsLooked (hit x) (own_backward command i (group_at p u) x) looked) there known))

module _ (test : ℕ → Bool) (i : ℕ) (from now to : Undoing) (w new : Way) (is : IsBack test i from now w) where
  -- one event back
  pub back_goes_on : to.group ≡ group_at to.group.position now.group → to.limit ≡ now.limit → to.kept ≡ now.kept → now.group.position ≡ to.group.position + 1
      → IsWay i from.group.position to.group new → new.count + to.group.position ≤ 4194304 → (now.group.position < from.group.position → test now.group.position ≡ false)
      → IsBack test i from to new
  back_goes_on same limit kept position way few fails = record {
    same = same ∙ ap (λ (g : Group). group_at to.group.position g) is.same;
    limit = limit ∙ is.limit;
    earlier = let so_far = is.earlier in omega arith;
    kept = kept ∙ is.kept;
    way = way;
    few = few;
    none = λ m above below. none m above below (cases_lt now.group.position m);
  }
    where
      none : (m : ℕ) → to.group.position < m → m < from.group.position → (now.group.position < m) ⊎ (m ≤ now.group.position) → test m ≡ false
      none m above below (inl l) = is.none m l below
      none m above below (inr l) =
          let here : now.group.position ≡ m = omega (arith, l, above, position) in
          subst (λ k. test k ≡ false) here (fails (omega (arith, here, below)))

  -- the position that was left last passes
  pub back_found : now.group.position < from.group.position → test now.group.position ≡ true → now.group.position ≡ greatest_of test 0 from.group.position
  back_found below passes = greatest_found test 0 from.group.position now.group.position (omega arith) (λ _. below) (λ _. passes) is.none

  pub back_at_start : now.group.position ≡ 0 → now.group.position ≡ greatest_of test 0 from.group.position
  back_at_start start = greatest_found test 0 from.group.position now.group.position (omega arith) (λ l. absurd (omega (arith, l, start))) (λ l. absurd (omega (arith, l, start))) is.none

-- what is known of a position, by the group searched from
pub looked_from : (hit other : Group → Bool) (command : Backward) (i p : ℕ) (from now : Group) (looked : Looked) → now ≡ group_at now.position from → group_at p now ≡ from → ((x : Group) → hit x ≡ other x)
    → IsLooked (hit now) (own_backward command i (group_at p now) now) looked → IsLooked (other (group_at now.position from)) (own_backward command i from (group_at now.position from)) looked
looked_from hit other command i p from now looked same first hits is =
    subst (λ (b : Bool). IsLooked b (own_backward command i from (group_at now.position from)) looked) (hits (group_at now.position from))
    (subst (λ (x : Group). IsLooked (hit x) (own_backward command i from x) looked) same (subst (λ (x : Group). IsLooked (hit now) (own_backward command i x now) looked) first is))
