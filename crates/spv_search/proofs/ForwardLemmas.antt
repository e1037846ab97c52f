-- A search forward on its way.
use Rattle.std.proofs.Common.{◌≡◌, ◌⊎◌, ◌≤◌, ◌<◌, ◌∙◌, ◌+◌, ◌-◌, ℕ, Bool, true, false, max, refl, ap, sym, subst, inl, inr, arith}
use Rattle.std.specs.Prelude.{◌||◌, Some}
use Rattle.std.proofs.lemmas.Bool.{cases_lt}
use Rattle.spv_base.specs.declared.happenings.Happening.{Happening}
use Rattle.spv_group.specs.Group.{Held as Group, Undoing, end_in, entries_in, group_at, window_in}
use Rattle.spv_group.specs.Positions.{least_of}
use Rattle.spv_group.specs.Run.{happening_at}
use Rattle.spv_group.proofs.Exports.{window_later}
use Rattle.spv_search.specs.Motion.{HasGone}
use Rattle.spv_search.specs.Moves.{moves, moves_between}
use Rattle.spv_search.specs.Own.{own_forward}
use Rattle.spv_search.specs.Targets.{passes_forward}
use Rattle.spv_search.specs.declared.commands.Forward.{Forward}
use Rattle.spv_search.proofs.CountLemmas.{at_most_one, none_between, one, one_behind}
use Rattle.spv_search.proofs.TargetLemmas.{least_behind, least_found, least_none}

-- a search on from one position is at another, with so many events counted and steps taken, and nothing passed so far
pub record IsOnward (test : ℕ → Bool) (i : ℕ) (from now : Undoing) (passed before steps : ℕ) : Type 0 where
  pub same : now.group ≡ group_at now.group.position from.group
  pub limit : now.limit ≡ from.limit
  pub later : from.group.position ≤ now.group.position
  pub within : now.group.position ≤ end_in from.group
  pub none : (m : ℕ) → from.group.position + 1 ≤ m → m < now.group.position + 1 → test m ≡ false
  pub count : passed ≡ moves_between from.group i from.group.position now.group.position
  pub few : passed ≤ now.group.position
  pub kept : now.kept ≤ max from.kept (window_in now)
  pub counted : steps ≡ before + (now.group.position - from.group.position)

module _ (test : ℕ → Bool) (i : ℕ) (from : Undoing) where
  pub onward_begins : (before : ℕ) → from.group.position ≤ end_in from.group → IsOnward test i from from 0 before before
  onward_begins before l = record {
    same = refl;
    limit = refl;
    later = omega arith;
    within = l;
    none = λ m a b. absurd (omega arith);
    count = sym (none_between from.group i from.group.position);
    few = omega arith;
    kept = omega arith;
    counted = omega arith;
  }

  module _ (now next : Undoing) (passed before steps : ℕ) (h : Happening) (is : IsOnward test i from now passed before steps) (gone : HasGone h now next) (counted : ℕ) (counted_is : counted ≡ passed + one (moves i h)) where
    pub position_on : next.group.position ≡ now.group.position + 1
    position_on = ap (λ (g : Group). g.position) gone.same

    pub same_on : next.group ≡ group_at next.group.position from.group
    same_on = gone.same ∙ ap (λ (g : Group). group_at (now.group.position + 1) g) is.same ∙ ap (λ n. group_at n from.group) (sym position_on)

    -- the event, by the group searched from, and by the one that is reached
    pub event_on : happening_at from.group.program (entries_in from.group) now.group.position ≡ Some h
    event_on = subst (λ (g : Group). happening_at g.program (entries_in g) now.group.position ≡ Some h) is.same gone.event

    pub count_on : counted ≡ moves_between from.group i from.group.position next.group.position
    count_on =
        counted_is
        ∙ ap (λ c. c + one (moves i h)) is.count
        ∙ sym (one_behind from.group i from.group.position now.group.position h is.later event_on)
        ∙ ap (moves_between from.group i from.group.position) (sym position_on)

    within_on : next.group.position ≤ end_in from.group
    within_on =
        let here : now.group.position < end_in from.group = subst (λ (g : Group). now.group.position < end_in g) is.same gone.before in
        omega (arith, here, position_on)

    later_on : from.group.position ≤ now.group.position
    later_on = is.later

    none_on : (m : ℕ) → from.group.position + 1 ≤ m → m < next.group.position → test m ≡ false
    none_on m above below = is.none m above (omega (arith, below, position_on))

    kept_on : next.kept ≤ max from.kept (window_in next)
    kept_on =
        let so_far = is.kept in
        let more = gone.kept in
        let there : next.group ≡ group_at next.group.position now.group = gone.same ∙ ap (λ n. group_at n now.group) (sym position_on) in
        let rises : window_in now ≤ window_in next = window_later now next there gone.limit (omega (arith, position_on)) in
        omega (arith, so_far, more, rises)

    -- nothing passes there either
    pub onward_goes_on : (later : ℕ) → later ≡ steps + 1 → test next.group.position ≡ false → IsOnward test i from next counted before later
    onward_goes_on later more fails = record {
      same = same_on;
      limit = gone.limit ∙ is.limit;
      later = omega (arith, later_on, position_on);
      within = within_on;
      none = λ m above below. none_there m above below (cases_lt m next.group.position);
      count = count_on;
      few = let so_far = is.few in let most = at_most_one (moves i h) in omega (arith, so_far, most, position_on, counted_is);
      kept = kept_on;
      counted = let so_far = is.counted in omega (arith, so_far, more, position_on, later_on);
    }
      where
        none_there : (m : ℕ) → from.group.position + 1 ≤ m → m < next.group.position + 1 → (m < next.group.position) ⊎ (next.group.position ≤ m) → test m ≡ false
        none_there m above below (inl l) = none_on m above l
        none_there m above below (inr l) = let here : next.group.position ≡ m = omega arith in subst (λ k. test k ≡ false) here fails

    -- something passes there
    pub onward_found : test next.group.position ≡ true → next.group.position ≡ least_of test (from.group.position + 1) (end_in from.group)
    onward_found passes =
        least_found test (from.group.position + 1) (end_in from.group) next.group.position (omega (arith, later_on, position_on)) within_on (λ _. passes) none_on

    -- it isn't known yet
    on_way : next.group.position ≤ least_of test (from.group.position + 1) (end_in from.group)
    on_way = least_behind test (from.group.position + 1) (end_in from.group) next.group.position (omega (arith, later_on, position_on, within_on)) within_on none_on

    pub onward_takes : (later : ℕ) → later ≡ steps + 1 → (before ≤ later) × (later ≤ before + ((least_of test (from.group.position + 1) (end_in from.group) - from.group.position) + 1))
    onward_takes later more =
        let so_far = is.counted in
        (omega (arith, so_far, more), omega (arith, so_far, more, position_on, later_on, on_way))

    pub onward_kept : next.kept ≤ max from.kept (window_in next)
    onward_kept = kept_on

  -- where nothing more is made
  module _ (now : Undoing) (passed before steps : ℕ) (is : IsOnward test i from now passed before steps) where
    ends : now.group.position ≤ least_of test (from.group.position + 1) (end_in from.group)
    ends = by_end (cases_lt from.group.position (end_in from.group))
      where
        by_end : (from.group.position < end_in from.group) ⊎ (end_in from.group ≤ from.group.position) → now.group.position ≤ least_of test (from.group.position + 1) (end_in from.group)
        by_end (inl l) =
            least_behind test (from.group.position + 1) (end_in from.group) now.group.position (omega arith) is.within (λ m above below. is.none m above (omega (arith, below)))
        by_end (inr l) = let there = least_none test (from.group.position + 1) (end_in from.group) (omega arith) in let within = is.within in omega (arith, there, within)

    pub stays_takes : (later : ℕ) → steps ≤ later → later ≤ steps + 1 → (before ≤ later) × (later ≤ before + ((least_of test (from.group.position + 1) (end_in from.group) - from.group.position) + 1))
    stays_takes later more most =
        let so_far = is.counted in
        let start = is.later in
        (omega (arith, so_far, more), omega (arith, so_far, most, start, ends))

    pub onward_ends : now.group.position ≡ end_in from.group → now.group.position ≡ least_of test (from.group.position + 1) (end_in from.group)
    onward_ends end = by_end (cases_lt from.group.position (end_in from.group))
      where
        by_end : (from.group.position < end_in from.group) ⊎ (end_in from.group ≤ from.group.position) → now.group.position ≡ least_of test (from.group.position + 1) (end_in from.group)
        by_end (inl l) =
            least_found test (from.group.position + 1) (end_in from.group) now.group.position (omega (arith, l, end)) is.within (λ l. absurd (omega (arith, l, end))) (λ m above below. is.none m above (omega (arith, below)))
        by_end (inr l) = end ∙ sym (least_none test (from.group.position + 1) (end_in from.group) (omega arith))

-- the test at a position, by the group there
pub test_there : (hit other : Group → Bool) (command : Forward) (i : ℕ) (first now : Group) (passes : Bool) → now ≡ group_at now.position first → ((x : Group) → hit x ≡ other x)
    → passes ≡ (hit now || own_forward command i first now) → passes_forward other command i first now.position ≡ passes
test_there hit other command i first now passes same is e =
    ap (λ x. other x || own_forward command i first x) (sym same) ∙ ap (λ b. b || own_forward command i first now) (sym (is now)) ∙ sym e
