-- Ways of a group along its run.
use Rattle.std.proofs.Common.{◌≡◌, ◌≤◌, ◌<◌, ◌∙◌, ◌+◌, ◌-◌, ℕ, Bool, true, false, max, min, Option, Some, None, List, Result, Ok, Err, refl, ap, sym, subst, arith}
use Rattle.std.specs.Prelude.{nat_lt, if◌then◌else◌}
use Rattle.std.proofs.lemmas.Bool.{ltb-true, ltb-false}
use Rattle.spv_base.specs.declared.causes.NoMemory.{NoMemory}
use Rattle.spv_base.specs.declared.happenings.Happening.{Happening}
use Rattle.spv_group.specs.Group.{Held as Group, Undoing, end_in, group_at, window_in}
use Rattle.spv_group.proofs.Exports.{window_later}
use Rattle.spv_search.specs.Costs.{return_cost}
use Rattle.spv_search.specs.Motion.{HasGone, IsForth}
use Rattle.spv_races.specs.Costs.{window_at}
use Rattle.spv_races.specs.Ways.{HasAdded, IsAdded, IsAdvanced, IsForward}
use Rattle.spv_order.specs.declared.events.Event.{Event}

-- ---- one event

pub stays : (from to : Undoing) → to ≡ from → IsForward from to
stays from to same = subst (λ (t : Undoing). IsForward from t) (sym same) (record { same = refl; limit = refl; later = omega arith; within = λ w. w; kept = omega arith })

gone_forward : (h : Happening) (from to : Undoing) → HasGone h from to → IsForward from to
gone_forward h from to gone =
    let on : to.group.position ≡ from.group.position + 1 = ap (λ (g : Group). g.position) gone.same in
    let before = gone.before in
    record {
      same = gone.same ∙ ap (λ n. group_at n from.group) (sym on);
      limit = gone.limit;
      later = omega (arith, on);
      within = λ w. omega (arith, on, before);
      kept = gone.kept;
    }

pub forward : (r : Result (Option Happening) NoMemory) (from to : Undoing) → IsForth r from to → IsForward from to
forward (Ok (Some h)) from to goes = gone_forward h from to goes
forward (Ok None) from to goes = stays from to goes.1
forward (Err e) from to goes = stays from to goes

pub advanced : (more : Bool) (from to : Group) → IsAdvanced more from to → more ≡ true → to.position ≡ from.position + 1
advanced true from to is test = is
advanced false from to is test = absurd (cc)

pub ended : (more : Bool) (from to : Group) → IsAdvanced more from to → more ≡ false → end_in from ≤ from.position
ended true from to is test = absurd (cc)
ended false from to is test = is

pub added : (more : Bool) (from to : Group) (old new : List Event) → IsAdded more from to old new → more ≡ true → HasAdded from to old new
added true from to old new is test = is
added false from to old new is test = absurd (cc)

pub unadded : (more : Bool) (from to : Group) (old new : List Event) → IsAdded more from to old new → more ≡ false → end_in from ≤ from.position
unadded true from to old new is test = absurd (cc)
unadded false from to old new is test = is

-- ---- several

-- on the way from one position of a run to a later one
pub record IsOn (from now : Undoing) (before steps : ℕ) : Type 0 where
  pub same : now.group ≡ group_at now.group.position from.group
  pub limit : now.limit ≡ from.limit
  pub later : from.group.position ≤ now.group.position
  pub within : now.group.position ≤ end_in from.group
  pub kept : now.kept ≤ max from.kept (window_in now)
  pub counted : before ≤ steps
  pub cost : steps ≤ before + (now.group.position - from.group.position)

-- the same, as contracts say it of a way up to a target
pub record IsReached (from now : Undoing) (target before steps : ℕ) : Type 0 where
  pub same : now.group ≡ group_at now.group.position from.group
  pub limit : now.limit ≡ from.limit
  pub within : now.group.position ≤ end_in from.group
  pub kept : now.kept ≤ max from.kept (window_in now)
  pub counted : before ≤ steps
  pub cost : steps ≤ before + (target - from.group.position)

pub on_begins : (from : Undoing) (before : ℕ) → from.group.position ≤ end_in from.group → IsOn from from before before
on_begins from before within = record { same = refl; limit = refl; later = omega arith; within = within; kept = omega arith; counted = omega arith; cost = omega arith }

-- the end is that of the same run
pub same_end : (from now : Group) → now ≡ group_at now.position from → end_in now ≡ end_in from
same_end from now same = ap end_in same

module _ (from now next : Undoing) (before steps : ℕ) (on : IsOn from now before steps)
    (same : next.group ≡ group_at next.group.position now.group) (limit : next.limit ≡ now.limit) (later : now.group.position ≤ next.group.position)
    (within : next.group.position ≤ end_in now.group) (kept : next.kept ≤ max now.kept (window_in next)) where
  pub same_then : next.group ≡ group_at next.group.position from.group
  same_then = same ∙ ap (λ (g : Group). group_at next.group.position g) on.same

  pub within_then : next.group.position ≤ end_in from.group
  within_then = let end : end_in now.group ≡ end_in from.group = same_end from.group now.group on.same in omega (arith, within, end)

  pub kept_then : next.kept ≤ max from.kept (window_in next)
  kept_then =
      let so_far = on.kept in
      let rises : window_in now ≤ window_in next = window_later now next same limit later in
      omega (arith, so_far, kept, rises)

  -- where it ends, at the end or for want of memory
  pub on_ends : (target more : ℕ) → now.group.position < target → steps ≤ more → more ≤ steps + 1 → IsReached from next target before more
  on_ends target more low counted cost =
      let so_far = on.counted in
      let took = on.cost in
      let start = on.later in
      record { same = same_then; limit = limit ∙ on.limit; within = within_then; kept = kept_then; counted = omega (arith, so_far, counted); cost = omega (arith, took, cost, start, low) }

  pub on_then : (more : ℕ) → steps ≤ more → more ≤ steps + (next.group.position - now.group.position) → IsOn from next before more
  on_then more counted cost =
      let so_far = on.counted in
      let took = on.cost in
      let start = on.later in
      record {
        same = same_then;
        limit = limit ∙ on.limit;
        later = omega (arith, start, later);
        within = within_then;
        kept = kept_then;
        counted = omega (arith, so_far, counted);
        cost = omega (arith, took, cost, start, later);
      }

-- ---- costs of a way there and back

pub return_more : (told : Bool) (k l from more to : ℕ) → k ≤ l → from ≤ more → return_cost told k from to ≤ return_cost told l more to
return_more told k l from more to a b = by told (nat_lt to k) (nat_lt to l) refl refl
  where
    by : (t x y : Bool) → nat_lt to k ≡ x → nat_lt to l ≡ y → (if x then (if t then from else to) else 0) ≤ (if y then (if t then more else to) else 0)
    by t false y e f = omega arith
    by true true true e f = b
    by false true true e f = omega arith
    by t true false e f = let low : to < k = ltb-true to k e in let high : l ≤ to = ltb-false to l f in absurd (omega (arith, low, high, a))

-- the way back, from where the events were made
pub there_and_back : (told : Bool) (kept later window p from to end there before found after : ℕ) → from < to → p ≤ end → there ≡ min to end → later ≤ max kept window
    → found ≤ before + return_cost told kept p from + (to - min from p) → after ≤ found + (p - there) + return_cost told later there p
    → after ≤ before + (max to p - min from p) + return_cost told kept p from + return_cost told (max kept window) (max to p) p
there_and_back told kept later window p from to end there before found after order within is less first second =
    let more : return_cost told later there p ≤ return_cost told (max kept window) (max to p) p = return_more told later (max kept window) there (max to p) p less (omega (arith, is)) in
    let way : (to - min from p) + (p - there) ≤ max to p - min from p = omega (arith, order, within, is) in
    omega (arith, first, second, more, way)

-- ---- windows

-- that of another position of the run is no lower where this is later
pub window_below : (from now : Undoing) (n : ℕ) → now.group ≡ group_at now.group.position from.group → now.limit ≡ from.limit → now.group.position ≤ n → window_in now ≤ window_at from n
window_below from now n same limit low =
    window_later now (record { group = group_at n from.group; kept = 0; limit = from.limit }) (sym (ap (λ (g : Group). group_at n g) same)) (sym limit) low
