-- What is told where a search stopped.
use Rattle.std.proofs.Common.{◌≡◌, ◌∙◌, inl, inr, ◌==◌, ◌<◌, ◌-◌, ℕ, Bool, true, false, not, cond, ◌||◌, List, [], ◌∷◌, ◌++◌, Option, Some, None, Result, Ok, Err, IfOk, OnOk, refl, sym, ap, ap₂, subst}
use Rattle.std.specs.Prelude.{option_map, unwrap_or}
use Rattle.std.proofs.lemmas.Bool.{eq-eqb}
use Rattle.spv_base.specs.declared.happenings.Happening.{Happening}
use Rattle.spv_dbg.specs.Tables.{Tables}
use Rattle.spv_group.specs.Group.{Held as Group, entries_in, group_at}
use Rattle.spv_group.specs.Run.{happening_before}
use Rattle.spv_hits.specs.Breaks.{break_numbers}
use Rattle.spv_hits.specs.Halts.{halt_numbers}
use Rattle.spv_hits.specs.Hits as stops
use Rattle.spv_hits.specs.Hits.{has_some}
use Rattle.spv_hits.specs.Watches.{watch_numbers}
use Rattle.spv_search.specs.Keys.{tables_in}
use Rattle.spv_search.specs.Stops.{IsTold}
use Rattle.spv_stops.specs.Halts.{Halts}
use Rattle.spv_stops.specs.Stops.{Stops}
use Rattle.spv_stops.specs.Watches.{WatchKey}
use Rattle.spv_stops.specs.declared.breaks.Breakpoint.{Breakpoint}
use Rattle.spv_session.specs.declared.causes.Hit.{Hit}
use Rattle.spv_session.specs.Motions.{Motion, focus_by, hit_by, hit_of, hit_told, hits, is_done, no_hit, stopped_at, target}
use Rattle.spv_session.specs.Reply.{motion_reply, stop_reply}
use Rattle.spv_session.specs.View.{Settings, View, first_view, focus_on}

-- ---- what hits

abbrev pub hit_with : (breaks watches halts : List ℕ) → Hit
hit_with bs ws hs = record { breaks = bs; watches = ws; halts = hs }

-- whether one of them hits
abbrev pub some_hit : Tables → Stops Breakpoint → Stops WatchKey → Halts → Settings → Group → Bool
some_hit t bs ws hs tests g = stops.hits t bs ws g || has_some (halt_numbers hs tests g)

no_numbers : (xs : List ℕ) → has_some xs ≡ false → xs ≡ []
no_numbers [] e = refl
no_numbers (x ∷ xs) e = absurd (cc)

either : (a b : Bool) → a || b ≡ false → (a ≡ false) × (b ≡ false)
either true b e = absurd (cc)
either false b e = (refl, e)

-- where nothing hits, there are no numbers
none_hit : (t : Tables) (bs : Stops Breakpoint) (ws : Stops WatchKey) (hs : Halts) (tests : Settings) (g : Group) → some_hit t bs ws hs tests g ≡ false → hit_of t bs ws hs tests g ≡ no_hit
none_hit t bs ws hs tests g e =
    let both = either (stops.hits t bs ws g) (has_some (halt_numbers hs tests g)) e in
    let first = either (has_some (break_numbers bs g)) (has_some (watch_numbers t ws g)) both.0 in
    ap₂ (λ (x y : List ℕ). hit_with x y (halt_numbers hs tests g)) (no_numbers (break_numbers bs g) first.0) (no_numbers (watch_numbers t ws g) first.1)
    ∙ ap (λ (z : List ℕ). hit_with [] [] z) (no_numbers (halt_numbers hs tests g) both.1)

-- and at the start there are none
none_first : (t : Tables) (bs : Stops Breakpoint) (ws : Stops WatchKey) (hs : Halts) (tests : Settings) (g : Group) → g.position ≡ 0 → hit_of t bs ws hs tests g ≡ no_hit
none_first t bs ws hs tests g e = ap (λ n. hit_of t bs ws hs tests (group_at n g)) e

chosen : (b : Bool) (x y : Hit) → x ≡ y → cond b x y ≡ y
chosen true x y e = e
chosen false x y e = refl

same_place : (m n : ℕ) (x y : Hit) → m ≡ n → cond (not (m == n)) x y ≡ y
same_place m n x y e = ap (λ b. cond (not b) x y) (eq-eqb m n e)

-- what a search tells is all that hits where it moved
told : (t : Tables) (bs : Stops Breakpoint) (ws : Stops WatchKey) (hs : Halts) (tests : Settings) (noted : Group → Type 0) (from to : Group) (event : Option Happening)
    → IsTold noted (some_hit t bs ws hs tests) from to event → hit_told from.position event (hit_of t bs ws hs tests) to ≡ cond (not (to.position == from.position)) (hit_of t bs ws hs tests to) no_hit
told t bs ws hs tests noted from to (Some h) is = refl
told t bs ws hs tests noted from to None (inl e) = sym (same_place to.position from.position (hit_of t bs ws hs tests to) no_hit e)
told t bs ws hs tests noted from to None (inr (inl e)) = sym (chosen (not (to.position == from.position)) (hit_of t bs ws hs tests to) no_hit (none_first t bs ws hs tests to e))
told t bs ws hs tests noted from to None (inr (inr e)) = sym (chosen (not (to.position == from.position)) (hit_of t bs ws hs tests to) no_hit (none_hit t bs ws hs tests to e))

-- the event that a search tells led to where it stopped, and the position before it is noted
pub event_told : (noted : Group → Type 0) (hit : Group → Bool) (from to : Group) (event : Option Happening) → IsTold noted hit from to event → (h : Happening) → event ≡ Some h
    → (happening_before to.program (entries_in to) to.position ≡ Some h) × noted (group_at (to.position - 1) to)
event_told noted hit from to (Some k) is h e =
    let same : k ≡ h = cc in
    subst (λ (x : Happening). (happening_before to.program (entries_in to) to.position ≡ Some x) × noted (group_at (to.position - 1) to)) same is
event_told noted hit from to None is h e = absurd (cc)

-- ---- the focus

-- breaks hit where the event before is of the invocation that becomes the focus
pub focus_led : (hit : Hit) (g : Group) (h : Happening) (i f : ℕ) → happening_before g.program (entries_in g) g.position ≡ Some h → f ≡ cond (has_some hit.breaks) h.inv i → f ≡ focus_by hit g i
focus_led hit g h i f is e = e ∙ ap (λ (x : Option Happening). cond (has_some hit.breaks) (unwrap_or (option_map (λ (k : Happening). k.inv) x) i) i) (sym is)

-- one of two that are both below a number is
pub focus_exists : (b : Bool) (i j n : ℕ) → (b ≡ true → i < n) → j < n → cond b i j < n
focus_exists true i j n h k = h refl
focus_exists false i j n h k = k

-- ---- where there was memory

pub on_ok_any : {T E : Type 0} (r : Result T E) (P : Type 0) → P → OnOk r P
on_ok_any (Ok x) P h = h
on_ok_any (Err e) P h = tt

pub if_ok_then : {T E : Type 0} (r : Result T E) (P Q : T → Type 0) → ((x : T) → P x → Q x) → IfOk r P → IfOk r Q
if_ok_then (Ok x) P Q f h = f x h
if_ok_then (Err e) P Q f h = tt

-- ---- by the stops that a search asks

pub at_stops : (P : Tables → Stops Breakpoint → Stops WatchKey → Type 0) (t u : Tables) (bs cs : Stops Breakpoint) (ws vs : Stops WatchKey) → t ≡ u → bs ≡ cs → ws ≡ vs → P t bs ws → P u cs vs
at_stops P t u bs cs ws vs e f g p = subst (λ (x : Tables). P x cs vs) e (subst (λ (x : Stops Breakpoint). P t x vs) f (subst (λ (x : Stops WatchKey). P t bs x) g p))

-- and by the kit and the focus
pub at_asked : (P : Tables → Stops Breakpoint → Stops WatchKey → Settings → ℕ → Type 0) (t u : Tables) (bs cs : Stops Breakpoint) (ws vs : Stops WatchKey) (ks ls : Settings) (i j : ℕ) → t ≡ u → bs ≡ cs → ws ≡ vs → ks ≡ ls → i ≡ j → P t bs ws ks i → P u cs vs ls j
at_asked P t u bs cs ws vs ks ls i j e f g h k p = subst (λ (n : ℕ). P u cs vs ls n) k (subst (λ (s : Settings). P u cs vs s i) h (at_stops (λ (x : Tables) (y : Stops Breakpoint) (z : Stops WatchKey). P x y z ks i) t u bs cs ws vs e f g p))

-- what is told of the same numbers is the same
hit_same : (from : ℕ) (event : Option Happening) (hit other : Group → Hit) (g : Group) → hit g ≡ other g → hit_told from event hit g ≡ hit_told from event other g
hit_same from None hit other g e = refl
hit_same from (Some h) hit other g e = ap (λ (x : Hit). cond (not (g.position == from)) x no_hit) e

abbrev pub numbers : Tables → Stops Breakpoint → Stops WatchKey → Halts → Settings → Group → List ℕ × List ℕ × List ℕ
numbers t bs ws hs tests g = (break_numbers bs g, watch_numbers t ws g, halt_numbers hs tests g)

abbrev lists : (x y z : List ℕ) → List ℕ × List ℕ × List ℕ
lists x y z = (x, y, z)

-- they are the same where breaks and watches tell the same, and the probes have the same tests
pub same_numbers : (bs bs' ws ws' : List ℕ) (hs : Halts) (k k' : Settings) (g : Group) → bs' ≡ bs → ws' ≡ ws → k' ≡ k → lists bs' ws' (halt_numbers hs k' g) ≡ lists bs ws (halt_numbers hs k g)
same_numbers bs bs' ws ws' hs k k' g e f h =
    ap (λ (x : List ℕ). lists x ws' (halt_numbers hs k' g)) e ∙ ap (λ (y : List ℕ). lists bs y (halt_numbers hs k' g)) f ∙ ap (λ (t : Settings). lists bs ws (halt_numbers hs t g)) h

hit_by_numbers : (p q : List ℕ × List ℕ × List ℕ) → p ≡ q → hit_with p.0 p.1 p.2 ≡ hit_with q.0 q.1 q.2
hit_by_numbers p q e = ap (λ (x : List ℕ × List ℕ × List ℕ). hit_with x.0 x.1 x.2) e

-- what was found is all that hits where the search led, where it moved
pub found_hit : (g h : Group) (n : ℕ) (t t' : Tables) (b b' bs : Stops Breakpoint) (w w' ws : Stops WatchKey) (hs : Halts) (k k' : Settings) (noted : Group → Type 0) (event : Option Happening) (hit : Hit)
    → n ≡ g.position → t ≡ tables_in g → b ≡ bs → w ≡ ws → IsTold noted (some_hit t b w hs k) g h event
    → numbers t' b' w' hs k' h ≡ numbers t b w hs k h → hit ≡ hit_told n event (hit_of t' b' w' hs k') h
    → hit ≡ cond (not (h.position == g.position)) (hit_of (tables_in g) bs ws hs k h) no_hit
found_hit g h n t t' b b' bs w w' ws hs k k' noted event hit first et eb ew is tells e =
    at_stops (λ (x : Tables) (y : Stops Breakpoint) (z : Stops WatchKey). hit ≡ cond (not (h.position == g.position)) (hit_of x y z hs k h) no_hit) t (tables_in g) b bs w ws et eb ew
    (e ∙ ap (λ m. hit_told m event (hit_of t' b' w' hs k') h) first ∙ hit_same g.position event (hit_of t' b' w' hs k') (hit_of t b w hs k) h (hit_by_numbers (numbers t' b' w' hs k' h) (numbers t b w hs k h) tells) ∙ told t b w hs k noted g h event is)

-- ---- the reply

abbrev pub view_of : Group → (i f : ℕ) → Stops Breakpoint → Stops WatchKey → Halts → (dropped : List ℕ) → View
view_of g i f bs ws hs ks = record (first_view g) { focus = i; frame = f; breaks = bs; watches = ws; halts = hs; dropped = ks }

-- a test of a group, at the position that it came to
pub tested : {X : Type 0} (test : Group → X) (g h : Group) (m : ℕ) (done : X) → h ≡ group_at h.position g → h.position ≡ m → done ≡ test h → done ≡ test (group_at m g)
tested test g h m done same position e = e ∙ ap test (same ∙ ap (λ n. group_at n g) position)

module _ (g h : Group) (i f : ℕ) (bs : Stops Breakpoint) (ws : Stops WatchKey) (hs : Halts) (ks : List ℕ) (tests : Settings) (motion : Motion) (done : Bool) (hit : Hit) (focus : ℕ) (same : h ≡ group_at h.position g) (position : h.position ≡ target (hits tests) (view_of g i f bs ws hs ks) motion)
    (is : done ≡ is_done (view_of g i f bs ws hs ks) motion (target (hits tests) (view_of g i f bs ws hs ks) motion)) (hits_are : hit ≡ hit_by tests (view_of g i f bs ws hs ks) motion (target (hits tests) (view_of g i f bs ws hs ks) motion))
    (focus_is : focus ≡ focus_by hit h i) where
  came : focus_on focus (view_of h i f bs ws hs ks) ≡ stopped_at (target (hits tests) (view_of g i f bs ws hs ks) motion) (hit_by tests (view_of g i f bs ws hs ks) motion (target (hits tests) (view_of g i f bs ws hs ks) motion)) (view_of g i f bs ws hs ks)
  came =
      ap (λ n. focus_on n (view_of h i f bs ws hs ks)) (focus_is ∙ ap (λ (x : Hit). focus_by x h i) hits_are)
      ∙ ap (λ (k : Group). focus_on (focus_by (hit_by tests (view_of g i f bs ws hs ks) motion (target (hits tests) (view_of g i f bs ws hs ks) motion)) k i) (view_of k i f bs ws hs ks)) (same ∙ ap (λ n. group_at n g) position)

  pub searched_text : {T E : Type 0} (r : Result T E) (w : View) (old new : List ℕ) → OnOk r (new ≡ old ++ stop_reply hit done w) → OnOk r (w ≡ focus_on focus (view_of h i f bs ws hs ks)) → OnOk r (new ≡ old ++ (motion_reply tests (view_of g i f bs ws hs ks) motion).0)
  searched_text (Ok x) w old new e v = e ∙ ap₂ (λ (b : Bool) (u : View). old ++ stop_reply hit b u) is (v ∙ came) ∙ ap (λ (x : Hit). old ++ stop_reply x (is_done (view_of g i f bs ws hs ks) motion (target (hits tests) (view_of g i f bs ws hs ks) motion)) (stopped_at (target (hits tests) (view_of g i f bs ws hs ks) motion) (hit_by tests (view_of g i f bs ws hs ks) motion (target (hits tests) (view_of g i f bs ws hs ks) motion)) (view_of g i f bs ws hs ks))) hits_are
  searched_text (Err x) w old new e v = tt

  pub searched_view : {T E : Type 0} (r : Result T E) (w : View) → OnOk r (w ≡ focus_on focus (view_of h i f bs ws hs ks)) → OnOk r (w ≡ (motion_reply tests (view_of g i f bs ws hs ks) motion).1)
  searched_view (Ok x) w v = v ∙ came
  searched_view (Err x) w v = tt
