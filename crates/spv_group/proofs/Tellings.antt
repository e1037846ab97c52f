-- Events that are told one after the other, and a run that tells them.
use Rattle.std.proofs.Common.{◌≡◌, ◌≤◌, ◌<◌, ◌+◌, ◌-◌, ◌++◌, ℕ, suc, List, [], ◌∷◌, Option, Some, Result, Ok, Err, refl, sym, ap, ◌∙◌, max, min, subst, arith, append_assoc, append-nil}
use Rattle.std.specs.Prelude.{IsErrAnd, OnOk, OnErr}
use Rattle.std.specs.List.{filter_map, range_with_len}
use Rattle.std.proofs.lemmas.List.Elements.{filter_map-append}
use Rattle.spv_base.specs.declared.happenings.Happening.{Happening}
use Rattle.spv_setup.specs.Schedule.{Entries}
use Rattle.spv_state.specs.Program.{Program}
use Rattle.spv_machine.specs.World.{Held as World}
use Rattle.spv_group.specs.Motion.{IsOpened, IsRun}
use Rattle.spv_group.specs.Run.{end_of, happening_at, happenings_between}
use Rattle.spv_group.specs.Costs.{run_cost}
use Rattle.spv_group.specs.Group.{Held, end_in, entries_in, group_at}
use Rattle.spv_group.specs.History.{window}
use Rattle.spv_group.proofs.Runs.{made_most}
use Rattle.spv_group.proofs.WindowLemmas.{range_more}

-- ---- what was told

one : (f : ℕ → Option Happening) (n : ℕ) (h : Happening) → f n ≡ Some h → filter_map f (n ∷ []) ≡ h ∷ []
one f n h e = grind arith

-- what happened up to the next position
pub between_more : (p : Program) (es : List ℕ) (k n : ℕ) (h : Happening) → k ≤ n → happening_at p es n ≡ Some h → happenings_between p es k (n + 1) ≡ happenings_between p es k n ++ h ∷ []
unfolding happenings_between
between_more p es k n h l is =
    let count : (n + 1) - k ≡ suc (n - k) = omega arith in
    let here : k + (n - k) ≡ n = omega arith in
    ap (λ c. filter_map (happening_at p es) (range_with_len k c)) count
    ∙ ap (filter_map (happening_at p es)) (range_more k (n - k))
    ∙ filter_map-append (happening_at p es) (range_with_len k (n - k)) ((k + (n - k)) ∷ [])
    ∙ ap (λ m. filter_map (happening_at p es) (range_with_len k (n - k)) ++ filter_map (happening_at p es) (m ∷ [])) here
    ∙ ap (λ l. filter_map (happening_at p es) (range_with_len k (n - k)) ++ l) (one (happening_at p es) n h is)

pub between_none : (p : Program) (es : List ℕ) (k : ℕ) → happenings_between p es k k ≡ []
unfolding happenings_between
between_none p es k = let no : k - k ≡ 0 = omega arith in ap (λ c. filter_map (happening_at p es) (range_with_len k c)) no

-- nothing was told yet
pub none_yet : {W : Type 0} (follows : List Happening → W → Type 0) (p : Program) (es : List ℕ) (k : ℕ) (before : List Happening) (w : W) → follows before w → follows (before ++ happenings_between p es k k) w
none_yet follows p es k before w told =
    subst (λ l. follows l w) (sym (append-nil before) ∙ ap (λ l. before ++ l) (sym (between_none p es k))) told

-- an event more
pub one_more : {W : Type 0} (follows : List Happening → W → Type 0) (p : Program) (es : List ℕ) (k n m : ℕ) (before : List Happening) (h : Happening) (w : W) → k ≤ n → m ≡ n + 1 → happening_at p es n ≡ Some h
    → follows ((before ++ happenings_between p es k n) ++ h ∷ []) w → follows (before ++ happenings_between p es k m) w
one_more follows p es k n m before h w l on is told =
    let more : (before ++ happenings_between p es k n) ++ h ∷ [] ≡ before ++ happenings_between p es k m
    = append_assoc before (happenings_between p es k n) (h ∷ []) ∙ ap (λ l. before ++ l) (sym (between_more p es k n h l is)) ∙ ap (λ j. before ++ happenings_between p es k j) (sym on) in
    subst (λ l. follows l w) more told

-- all up to where the run was to lead
pub all_told : {W : Type 0} (follows : List Happening → W → Type 0) (p : Program) (es : List ℕ) (k n target : ℕ) (before : List Happening) (w : W) → n ≡ target
    → follows (before ++ happenings_between p es k n) w → follows (before ++ happenings_between p es k target) w
all_told follows p es k n target before w there told = subst (λ (j : ℕ). follows (before ++ happenings_between p es k j) w) there told

-- what a `?` that hands on an error of its own type returns promises nothing of a success, and what it promises of an error holds
pub no_success : {T E : Type 0} (r : Result T E) (P : E → Type 0) (A : Type 0) → IsErrAnd r P → OnOk r A
no_success (Ok x) P A is = absurd is
no_success (Err x) P A is = tt

pub on_failure : {T E A : Type 0} (r : Result T E) (P : E → Type 0) → IsErrAnd r P → A → OnErr r A
on_failure (Ok x) P is a = absurd is
on_failure (Err x) P is a = a

-- ---- where such a run is, and what it took

-- on the way from one position to another, with so many steps before and now
pub record IsOnWay (from target before n now : ℕ) : Type 0 where
  pub later : from ≤ n
  pub until : n ≤ target
  pub counted : before ≤ now
  pub cost : now ≤ before + (n - from)

pub way_begins : (from target before : ℕ) → from ≤ target → IsOnWay from target before from before
way_begins from target before l = record { later = omega arith; until = l; counted = omega arith; cost = omega arith }

pub way_goes_on : (from target before n now m next : ℕ) → IsOnWay from target before n now → n < target → m ≡ n + 1 → now ≤ next → next ≤ now + 1 → IsOnWay from target before m next
way_goes_on from target before n now m next way l on counted cost =
    let later = way.later in
    let so_far = way.cost in
    let steps = way.counted in
    record { later = omega arith; until = omega arith; counted = omega arith; cost = omega arith }

-- what it takes at most, also where an event more finds no memory
pub way_takes : (from target before n now : ℕ) → IsOnWay from target before n now → now ≤ before + (target - from)
way_takes from target before n now way =
    let later = way.later in
    let until = way.until in
    let so_far = way.cost in
    omega arith

pub way_takes_more : (from target before n now next : ℕ) → IsOnWay from target before n now → n < target → next ≤ now + 1 → next ≤ before + (target - from)
way_takes_more from target before n now next way l cost =
    let later = way.later in
    let so_far = way.cost in
    omega arith

pub way_ends : (from target before n now : ℕ) → IsOnWay from target before n now → target ≤ n → n ≡ target
way_ends from target before n now way l = let until = way.until in omega arith

pub within_end : (n target end : ℕ) → n < target → target ≤ end → n < end
within_end n target end l m = omega arith

pub way_shortens : (n m target : ℕ) → n < target → m ≡ n + 1 → target - m < target - n
way_shortens n m target l on = omega arith

-- ---- a run from the start on to an earlier position, and one from there on to the old one

pub first_limit : 1 ≤ 1
first_limit = omega arith

pub no_fewer : (n : ℕ) → n ≤ n
no_fewer n = omega arith

pub no_more : (n m : ℕ) → n ≤ n + m
no_more n m = omega arith

pub kept_before : (n count target : ℕ) → n ≡ target → n - count ≤ target
kept_before n count target there = omega arith

pub counts_on : (before now next : ℕ) → before ≤ now → now ≤ next → before ≤ next
counts_on before now next first second = omega arith

leads_there : (end position target from at : ℕ) → from ≡ 0 → target ≤ position → position ≤ end → at ≡ max from (min target end) → at ≡ target
leads_there end position target from at zero_is l within is = is ∙ rw zero_is (omega (arith, l, within))

takes_so_far : (end position target from at before now : ℕ) → from ≡ 0 → target ≤ position → position ≤ end → before + (at - from) ≤ now → now ≤ before + run_cost end from target
    → (before ≤ now) × (now ≤ before + target) × (now ≤ before + position)
takes_so_far end position target from at before now zero_is l within counted cost =
    let most = made_most end from target before now at zero_is (omega (arith, l, within)) counted cost in
    let bound : now ≤ before + target = most.1 in
    (most.0, bound, omega (arith, l, bound))

takes_both : (position target from before now next : ℕ) → target ≤ position → from ≡ target → now ≤ before + target → next ≤ now + (position - from) → next ≤ before + position
takes_both position target from before now next l there first second = omega (arith, l, there, first, second)

most_kept : (window from before kept : ℕ) → from ≡ 0 → before ≡ from → kept ≤ max before window → kept ≤ window
most_kept window from before kept zero_is none most = omega (arith, zero_is, none, most)

-- a position that a run made again has, from the start of an open group on to a target before the old position
module _ (p : Program) (s : Entries) (limit : ℕ) (first : World) (zero : ℕ) (w : World) (n old target from : ℕ) (is : IsOpened p s limit first zero w n) (here : n ≡ old) (l : target ≤ old) (begun : from ≡ zero) where
  below : target ≤ n
  below = subst (λ (m : ℕ). target ≤ m) (sym here) l

  from_zero : from ≡ 0
  from_zero = begun ∙ is.start

  pub came_to : (at : ℕ) → at ≡ max from (min target (end_of p s.list)) → at ≡ target
  came_to at e = leads_there (end_of p s.list) n target from at from_zero below is.now.within e

  pub comes_before : (at : ℕ) → at ≡ target → at ≤ n
  comes_before at e = subst (λ (m : ℕ). m ≤ n) (sym e) below

  pub took : (at before now : ℕ) → before + (at - from) ≤ now → now ≤ before + run_cost (end_of p s.list) from target → (before ≤ now) × (now ≤ before + target) × (now ≤ before + old)
  took at before now counted cost =
      let most = takes_so_far (end_of p s.list) n target from at before now from_zero below is.now.within counted cost in
      (most.0, most.1, subst (λ (m : ℕ). now ≤ before + m) here most.2)

  pub took_both : (at before now next : ℕ) → at ≡ target → now ≤ before + target → next ≤ now + (n - at) → next ≤ before + old
  took_both at before now next e counted cost = subst (λ (m : ℕ). next ≤ before + m) here (takes_both n target at before now next below e counted cost)

  pub keeps_from_start : (room kept_before kept at : ℕ) → kept_before ≡ zero → room ≡ limit → kept ≤ max kept_before (window room p s.list at) → kept ≤ window limit p s.list at
  keeps_from_start room kept_before kept at none same most =
      most_kept (window limit p s.list at) zero kept_before kept is.start none (subst (λ (r : ℕ). kept ≤ max kept_before (window r p s.list at)) same most)

  -- with the run made again in the place of the old one
  pub opens_again : (t : World) (at room : ℕ) → IsRun p s room t at → room ≡ limit → IsOpened p s limit first zero t at
  opens_again t at room run same = record { now = subst (λ (r : ℕ). IsRun p s r t at) same run; begun = is.begun; start = is.start }

-- ---- what callers see then

abbrev seen : Program → Entries → ℕ → Held
seen p s k = record { program = p; schedule = s; position = k }

-- the same run at another position
pub held_at : (p : Program) (s : Entries) (n m target : ℕ) (g : Held) → ◌≡◌ {A = Held} (record { program = p; schedule = s; position = n }) g → m ≡ target
    → ◌≡◌ {A = Held} (record { program = p; schedule = s; position = m }) (group_at target g)
held_at p s n m target g is there = ap (seen p s) there ∙ ap (λ (v : Held). group_at target v) is

pub within_in : (p : Program) (s : Entries) (n m : ℕ) (g : Held) → ◌≡◌ {A = Held} (record { program = p; schedule = s; position = n }) g → m ≤ end_of p s.list → m ≤ end_in g
within_in p s n m g is within = subst (λ (v : Held). m ≤ end_in v) is within

-- what was told, by what callers saw before
pub told_in : {W : Type 0} (follows : List Happening → W → Type 0) (p : Program) (s : Entries) (n from target : ℕ) (before : List Happening) (w : W) (g : Held)
    → ◌≡◌ {A = Held} (record { program = p; schedule = s; position = n }) g → from ≡ target
    → follows (before ++ happenings_between p s.list from n) w → follows (before ++ happenings_between g.program (entries_in g) target g.position) w
told_in follows p s n from target before w g is there told =
    subst (λ (v : Held). follows (before ++ happenings_between v.program (entries_in v) target v.position) w) is
    (subst (λ (k : ℕ). follows (before ++ happenings_between p s.list k n) w) there told)
