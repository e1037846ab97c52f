-- A whole search back: its target where what hits is told in another way, and its steps.
use Rattle.std.proofs.Common.{◌≡◌, ◌≤◌, ◌<◌, ◌∙◌, ◌+◌, ◌-◌, ◌*◌, ℕ, zero, suc, Bool, true, false, cond, Option, Some, None, inl, inr, refl, ap, sym, arith}
use Rattle.std.specs.Prelude.{◌&&◌, ◌||◌, nat_le, nat_lt}
use Rattle.spv_base.specs.declared.happenings.Happening.{Happening}
use Rattle.spv_group.specs.Group.{Held as Group, Undoing, group_at}
use Rattle.spv_group.specs.Positions.{greatest_of}
use Rattle.spv_search.specs.Again.{IsTarget}
use Rattle.spv_search.specs.Costs.{again_cost, backward_cost, lead_cost, return_cost}
use Rattle.spv_search.specs.Own.{own_backward, own_next}
use Rattle.spv_search.specs.Sights.{IsLeft}
use Rattle.spv_search.specs.Stops.{IsStop, IsTold}
use Rattle.spv_search.specs.Targets.{passes_backward}
use Rattle.spv_search.specs.declared.again.Target.{Target}
use Rattle.spv_search.specs.declared.backward.Way.{Way}
use Rattle.spv_search.specs.declared.commands.Backward.{Backward}
use Rattle.spv_search.specs.declared.commands.Stopped.{Stopped}
use Rattle.spv_search.proofs.OwnLemmas.{either_is, own_by_next}
use Rattle.spv_search.proofs.TargetLemmas.{greatest_found}

pub greatest_same : (test other : ℕ → Bool) (low high : ℕ) → ((m : ℕ) → test m ≡ other m) → greatest_of test low high ≡ greatest_of other low high
greatest_same test other low zero same = refl
greatest_same test other low (suc n) same =
    ap (λ b. cond (nat_lt low n && b) n (greatest_of test low n)) (same n) ∙ ap (λ m. cond (nat_lt low n && other n) n m) (greatest_same test other low n same)

pub left_same : (test other : ℕ → Bool) (i : ℕ) (from now : Undoing) (w : Way) → ((m : ℕ) → test m ≡ other m) → IsLeft other i from now w → IsLeft test i from now w
left_same test other i from now w same left = record {
  same = left.same;
  limit = left.limit;
  kept = left.kept;
  here = left.here;
  some = left.some;
  earlier = left.earlier;
  way = left.way;
  none = λ m above below. same m ∙ left.none m above below;
}

told_same : (noted : Group → Type 0) (hit other : Group → Bool) (from to : Group) (event : Option Happening) → ((x : Group) → hit x ≡ other x) → IsTold noted hit from to event → IsTold noted other from to event
told_same noted hit other from to (Some h) same told = told
told_same noted hit other from to None same told = elim told [
  | inl e ↦ inl e
  | inr more ↦ elim more [ inl e ↦ inr (inl e) | inr e ↦ inr (inr (sym (same to) ∙ e)) ]
]

pub stop_same : (noted : Group → Type 0) (hit other : Group → Bool) (command : Backward) (i : ℕ) (from to : Group) (s : Stopped) → ((x : Group) → hit x ≡ other x)
    → IsStop noted hit command i from to s → IsStop noted other command i from to s
stop_same noted hit other command i from to s same is = record {
  target = is.target ∙ greatest_same (passes_backward hit command i from) (passes_backward other command i from) 0 from.position (λ m. ap (λ b. b || own_backward command i from (group_at m from)) (same (group_at m from)));
  done = is.done;
  event = told_same noted hit other from to s.event same is.event;
}

not_within : (a b : ℕ) → b < a → nat_le a b ≡ false
not_within a b l = grind arith

pub again_costs : (told : Bool) (kept to before later : ℕ) → 0 < kept → to ≤ kept → later ≤ before + cond told (3 * kept + 1) (2 * kept) → later ≤ before + backward_cost told kept to
again_costs told kept to before later some l takes = let beyond : nat_le kept (to - 1) ≡ false = not_within kept (to - 1) (omega arith) in rw beyond takes

-- a run from the start on, behind a return there
again_by : (told b : Bool) (kept from n before later : ℕ) → n ≤ from → later ≤ before + cond b (cond told from 0) 0 + n → later ≤ before + again_cost told from
again_by true true kept from n before later l takes = omega arith
again_by true false kept from n before later l takes = omega arith
again_by false true kept from n before later l takes = omega arith
again_by false false kept from n before later l takes = omega arith

pub again_enough : (told : Bool) (kept from n before later : ℕ) → n ≤ from → later ≤ before + return_cost told kept from 0 + n → later ≤ before + again_cost told from
again_enough told kept from n before later l takes = again_by told (nat_lt 0 kept) kept from n before later l takes

-- where the position was found, or wasn't
pub found_takes : (told other : Bool) (n kept before first later : ℕ) → other ≡ told → n ≡ kept → first ≡ before → later ≤ first + again_cost other n → later ≤ before + cond told (3 * kept + 1) (2 * kept)
found_takes true true n kept before first later e f h l = omega arith
found_takes false false n kept before first later e f h l = omega arith
found_takes true false n kept before first later e f h l = absurd (cc)
found_takes false true n kept before first later e f h l = absurd (cc)

-- and the way there
pub led_takes : (told other third : Bool) (n m kept to before first found later : ℕ) → other ≡ told → third ≡ told → n ≡ kept → m ≡ n → to ≤ kept → first ≡ before
    → found ≤ first + again_cost other n → later ≤ found + lead_cost third m to → later ≤ before + cond told (3 * kept + 1) (2 * kept)
led_takes true true true n m kept to before first found later e f h i j k x y = omega arith
led_takes false false false n m kept to before first found later e f h i j k x y = omega arith
led_takes true false third n m kept to before first found later e f h i j k x y = absurd (cc)
led_takes false true third n m kept to before first found later e f h i j k x y = absurd (cc)
led_takes true true false n m kept to before first found later e f h i j k x y = absurd (cc)
led_takes false false true n m kept to before first found later e f h i j k x y = absurd (cc)

-- the event at the last position that was left is what the command asks for
pub target_here : (hit : Group → Bool) (command : Backward) (i : ℕ) (from now : Undoing) (w : Way) (target : Target) → IsLeft (passes_backward hit command i from.group) i from now w
    → now.group.position < from.group.position → own_next command i from.group now.group ≡ true → target.position ≡ now.group.position → target.done ≡ true → IsTarget hit command i from.group target
target_here hit command i from now w target left below next here done =
    let there : Group = group_at now.group.position from.group in
    let asked : own_next command i from.group there ≡ true = ap (λ (x : Group). own_next command i from.group x) (sym left.same) ∙ next in
    let own : true ≡ own_backward command i from.group there = own_by_next command i from.group there asked in
    let passes : passes_backward hit command i from.group now.group.position ≡ true = sym (either_is (hit there) (own_backward command i from.group there) (sym own)) in
    record {
      position = here ∙ greatest_found (passes_backward hit command i from.group) 0 from.group.position now.group.position (omega arith) (λ _. below) (λ _. passes) left.none;
      before = omega (arith, here, below);
      done = done ∙ own ∙ ap (λ n. own_backward command i from.group (group_at n from.group)) (sym here);
    }
