-- How searches end.
use Rattle.std.proofs.Common.{◌≡◌, ◌⊎◌, ◌≤◌, ◌<◌, ◌==◌, ◌∙◌, ◌+◌, ◌-◌, ℕ, Bool, true, false, Option, Some, None, refl, ap, sym, subst, inl, inr, arith}
use Rattle.std.specs.Prelude.{◌&&◌, ◌||◌, not}
use Rattle.std.proofs.lemmas.Bool.{cases_lt}
use Rattle.spv_base.specs.declared.happenings.Happening.{Happening}
use Rattle.spv_base.proofs.Exports.{same_number}
use Rattle.spv_group.specs.Group.{Held as Group, Undoing, entries_in, group_at}
use Rattle.spv_group.specs.Run.{happening_before}
use Rattle.spv_search.specs.Again.{IsTarget}
use Rattle.spv_search.specs.Motion.{HasGone}
use Rattle.spv_search.specs.Own.{own_backward, own_forward, own_next}
use Rattle.spv_search.specs.Stops.{IsLed, IsLooked, IsStop, IsTold, done_backward, done_forward}
use Rattle.spv_search.specs.Targets.{passes_backward, passes_forward}
use Rattle.spv_search.specs.declared.again.Target.{Target}
use Rattle.spv_search.specs.declared.backward.Way.{Way}
use Rattle.spv_search.specs.declared.commands.Backward.{Backward}
use Rattle.spv_search.specs.declared.commands.Forward.{Forward}
use Rattle.spv_search.specs.declared.commands.Stopped.{Stopped}
use Rattle.spv_search.specs.declared.hits.Looked.{Looked}
use Rattle.spv_search.proofs.BackLemmas.{IsBack, back_at_start, back_found}
use Rattle.spv_search.proofs.ForwardLemmas.{IsOnward}
use Rattle.spv_search.proofs.OwnLemmas.{back_again, either_way, event_behind, none_at_start}

-- the event that was made last
pub led_by : (noted : Group → Type 0) (h : Happening) (from to : Undoing) → HasGone h from to → noted from.group → IsLed noted to.group (Some h)
led_by noted h from to gone was = (
  subst (λ (x : Group). happening_before x.program (entries_in x) x.position ≡ Some h) (sym gone.same) (event_behind from.group.program (entries_in from.group) from.group.position h gone.event),
  subst (λ (x : Group). noted (group_at (x.position - 1) x)) (sym gone.same) (subst (λ n. noted (group_at n from.group)) (sym (back_again from.group.position)) was),
)

-- ---- where the group moved

other_number : (a b : ℕ) → (a < b) ⊎ (b < a) → (a == b) ≡ false
other_number a b (inl l) = grind arith
other_number a b (inr l) = grind arith

pub moved_forward : (command : Forward) (i : ℕ) (from to : Group) (b : Bool) → from.position < to.position → b ≡ own_forward command i from to → b ≡ done_forward command i from to
moved_forward command i from to b l e = e ∙ sym (ap (λ c. not c && own_forward command i from to) (other_number to.position from.position (inr l)))

pub moved_backward : (command : Backward) (i : ℕ) (from to : Group) (b : Bool) → to.position < from.position → to ≡ group_at to.position from → b ≡ own_backward command i from (group_at to.position from) → b ≡ done_backward command i from to
moved_backward command i from to b l same e =
    e ∙ ap (λ (x : Group). own_backward command i from x) (sym same) ∙ sym (ap (λ c. not c && own_backward command i from to) (other_number to.position from.position (inl l)))

-- ---- where it didn't

same_position : (a b : ℕ) → a ≡ b → (a == b) ≡ true
same_position a b e = subst (λ n. (a == n) ≡ true) e (same_number a)

pub still_forward : (command : Forward) (i : ℕ) (from to : Group) → to.position ≡ from.position → false ≡ done_forward command i from to
still_forward command i from to e = sym (ap (λ c. not c && own_forward command i from to) (same_position to.position from.position e))

-- ---- at the start

next_alone : (a b c : Bool) → a ≡ (b || c) → c ≡ false → b ≡ a
next_alone a true c e f = sym e
next_alone a false c e f = sym (e ∙ f)

pub at_start_done : (command : Backward) (i : ℕ) (from to : Group) → to.position ≡ 0 → 0 < from.position → own_next command i from to ≡ done_backward command i from to
at_start_done command i from to start l =
    next_alone (own_backward command i from to) (own_next command i from to) _ (either_way command i from to) (none_at_start command i from to start)
    ∙ sym (ap (λ c. not c && own_backward command i from to) (other_number to.position from.position (inl (omega (arith, start, l)))))

-- ---- at the end

or_parts : (a b : Bool) → (a || b) ≡ false → (a ≡ false) × (b ≡ false)
or_parts true b e = absurd (cc)
or_parts false b e = (refl, e)

module _ (hit : Group → Bool) (command : Forward) (i : ℕ) (from now to : Undoing) (passed before steps : ℕ) (on : IsOnward (passes_forward hit command i from.group) i from now passed before steps) (same : to ≡ now) where
  fails : from.group.position < now.group.position → (hit (group_at now.group.position from.group) ≡ false) × (own_forward command i from.group (group_at now.group.position from.group) ≡ false)
  fails l = or_parts (hit (group_at now.group.position from.group)) (own_forward command i from.group (group_at now.group.position from.group)) (on.none now.group.position (omega (arith, l)) (omega arith))

  done_here : (from.group.position < now.group.position) ⊎ (now.group.position ≤ from.group.position) → false ≡ done_forward command i from.group now.group
  done_here (inl l) = moved_forward command i from.group now.group false l (subst (λ (x : Group). false ≡ own_forward command i from.group x) (sym on.same) (sym (fails l).1))
  done_here (inr l) = let later = on.later in still_forward command i from.group now.group (omega (arith, l, later))

  pub ended_done : false ≡ done_forward command i from.group to.group
  ended_done = subst (λ (u : Undoing). false ≡ done_forward command i from.group u.group) (sym same) (done_here (cases_lt from.group.position now.group.position))

  told_here : (from.group.position < now.group.position) ⊎ (now.group.position ≤ from.group.position) → (now.group.position ≡ from.group.position) ⊎ ((now.group.position ≡ 0) ⊎ (hit now.group ≡ false))
  told_here (inl l) = inr (inr (subst (λ (x : Group). hit x ≡ false) (sym on.same) (fails l).0))
  told_here (inr l) = let later = on.later in inl (omega (arith, l, later))

pub ended_told : (noted : Group → Type 0) (hit : Group → Bool) (command : Forward) (i : ℕ) (from now to : Undoing) (passed before steps : ℕ)
    → IsOnward (passes_forward hit command i from.group) i from now passed before steps → to ≡ now → IsTold noted hit from.group to.group None
ended_told noted hit command i from now to passed before steps on same =
    subst (λ (u : Undoing). IsTold noted hit from.group u.group None) (sym same) (told_here hit command i from now to passed before steps on same (cases_lt from.group.position now.group.position))

-- ---- a search back

told_of : (noted : Group → Type 0) (hit : Group → Bool) (from to : Group) (event : Option Happening) → IsLed noted to event → IsTold noted hit from to event
told_of noted hit from to (Some h) led = led
told_of noted hit from to None led = inr (inl led)

pub stop_at : (noted : Group → Type 0) (hit : Group → Bool) (command : Backward) (i : ℕ) (from to : Group) (target : Target) (s : Stopped) → IsTarget hit command i from target
    → to ≡ group_at to.position from → to.position ≡ target.position → IsLed noted to s.event → s.done ≡ target.done → IsStop noted hit command i from to s
stop_at noted hit command i from to target s is same here led done = record {
  target = here ∙ is.position;
  done =
      (let before = is.before in
      moved_backward command i from to s.done (omega (arith, before, here)) same (done ∙ is.done ∙ ap (λ n. own_backward command i from (group_at n from)) (sym here)));
  event = told_of noted hit from to s.event led;
}

-- among the events that are kept
pub stop_found : (noted : Group → Type 0) (hit : Group → Bool) (command : Backward) (i : ℕ) (from now left to : Undoing) (w : Way) (looked : Looked) (h : Happening)
    → IsBack (passes_backward hit command i from.group) i from now w → now.group.position < from.group.position → left.group ≡ group_at left.group.position now.group → now.group.position ≡ left.group.position + 1
    → HasGone h left to → noted left.group → IsLooked (hit (group_at now.group.position from.group)) (own_backward command i from.group (group_at now.group.position from.group)) looked → looked.passes ≡ true
    → IsStop noted hit command i from.group to.group (record { done = looked.done; event = Some h })
stop_found noted hit command i from now left to w looked h back below same position gone was is passes =
    let on : to.group.position ≡ left.group.position + 1 = ap (λ (x : Group). x.position) gone.same in
    let there : to.group.position ≡ now.group.position = on ∙ sym position in
    let run : to.group ≡ group_at to.group.position from.group
    = gone.same ∙ ap (λ (x : Group). group_at (left.group.position + 1) x) (same ∙ ap (λ (x : Group). group_at left.group.position x) back.same) ∙ ap (λ n. group_at n from.group) (sym on) in
    record {
      target = there ∙ back_found (passes_backward hit command i from.group) i from now left w w back below (sym is.passes ∙ passes);
      done =
          moved_backward command i from.group to.group looked.done (omega (arith, there, below)) run (is.done ∙ ap (λ n. own_backward command i from.group (group_at n from.group)) (sym there));
      event = led_by noted h left to gone was;
    }

-- at the start
pub stop_start : (noted : Group → Type 0) (hit : Group → Bool) (command : Backward) (i : ℕ) (from now : Undoing) (w : Way) (done : Bool) → IsBack (passes_backward hit command i from.group) i from now w
    → now.group.position ≡ 0 → 0 < from.group.position → done ≡ own_next command i from.group now.group → IsStop noted hit command i from.group now.group (record { done = done; event = None })
stop_start noted hit command i from now w done back start some is = record {
  target = back_at_start (passes_backward hit command i from.group) i from now now w w back start;
  done = is ∙ at_start_done command i from.group now.group start some;
  event = inr (inl start);
}
