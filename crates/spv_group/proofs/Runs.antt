-- The end of a run, one event more, and one less.
use Rattle.std.proofs.Common.{◌≡◌, ℕ, suc, ◌+◌, ◌<◌, ◌≤◌, Bool, true, false, cond, List, [], ◌∷◌, length, refl, sym, ap, ◌∙◌, subst, arith, None, Some, Option, inl, inr, add-one, zero, take, Ok, Err, Result, IfOk, nat_eq, get_or, ◌-◌}
use Rattle.std.proofs.lemmas.Bool.{ltb-true}
use Rattle.std.specs.Prelude.{max, min, nat_lt, slice_get, slice_index, is_some, option_map, IfSome, IsSome}
use Rattle.std.proofs.lemmas.Bool.{cases_lt, eqb-false}
use Rattle.std.proofs.lemmas.Option.{slice_get_past, slice_get_within, slice_get-get_or}
use Rattle.spv_state.specs.State.{State}
use Rattle.spv_base.specs.declared.causes.NoMemory.{NoMemory}
use Rattle.spv_base.specs.declared.happenings.Happening.{Happening}
use Rattle.spv_base.specs.declared.happenings.Fault.{Fault}
use Rattle.spv_base.specs.declared.happenings.EndCause.{EndCause}
use Rattle.spv_base.specs.declared.happenings.EndCause.TheVariants as end
use Rattle.spv_setup.specs.Schedule.{Entries}
use Rattle.spv_state.specs.Program.{Program}
use Rattle.spv_state.specs.Start.{start_of}
use Rattle.spv_machine.specs.Step.{Idles, Moves, Faults, idle, step_of, fault_in}
use Rattle.spv_state.specs.Sound.{IsSound}
use Rattle.spv_group.specs.Positions.{IsLeast}
use Rattle.spv_group.specs.Run.{state_after, event, run, happening_in, happening_at, happening_before, all_finished, is_stuck, next_cause, cause_in, cause_at, has_cause, end_of}
use Rattle.spv_group.specs.Costs.{run_cost}
use Rattle.spv_group.specs.Group.{Held, end_cause_in}
use Rattle.spv_group.specs.History.{weight, window, moment_at, moments_below, AreLight}
use Rattle.spv_group.specs.Motion.{IsRun, IsRight, WasMade, kept_in}
use Rattle.spv_journal.specs.Events.{Event, size_of, size, fitting, older}
use Rattle.spv_journal.specs.Undo.{Moment, past, before}
use Rattle.spv_machine.specs.Weights.{weight_of}
use Rattle.spv_machine.specs.World.{Held as World, IsRecorded}
use Rattle.spv_group.proofs.PositionsLemmas.{least_is}
use Rattle.spv_group.proofs.WindowLemmas.{fitting_length, fitting_size, fitting_light, keeps_window}
use Rattle.spv_group.proofs.Histories.{happening_is, entry_is, fitting_more, past_less}
use Rattle.spv_base.proofs.Exports.{opposite}

-- ---- the end

pub end_is : (p : Program) (es : List ℕ) → IsLeast (has_cause p es) 0 (length es) (end_of p es)
end_is p es = least_is (has_cause p es) 0 (length es) (omega arith)

some_cause : (b c : Bool) (x y z : EndCause) → is_some (cond b (Some x) (cond c (Some y) (Some z))) ≡ true
some_cause true c x y z = refl
some_cause false true x y z = refl
some_cause false false x y z = refl

past_cause : (p : Program) (es : List ℕ) (n : ℕ) → length es ≤ n → has_cause p es n ≡ true
past_cause p es n h = ap (λ o. is_some (cause_in p (run p es n) o)) (slice_get_past es n h) ∙ some_cause (all_finished (run p es n)) (is_stuck (run p es n)) end.Finished end.Stuck end.Schedule

pub cause_at_end : (p : Program) (es : List ℕ) → has_cause p es (end_of p es) ≡ true
cause_at_end p es = elim (cases_lt (end_of p es) (length es)) [ inl l ↦ (end_is p es).passes l | inr l ↦ past_cause p es (end_of p es) l ]

-- a position up to the end is the end exactly where it has a cause
pub is_end : (p : Program) (es : List ℕ) (n : ℕ) → n ≤ end_of p es → has_cause p es n ≡ true → n ≡ end_of p es
is_end p es n l h = elim (cases_lt n (end_of p es)) [ inl k ↦ absurd (opposite (has_cause p es n) h ((end_is p es).before n (omega arith) k)) | inr k ↦ omega arith ]

pub before_end : (p : Program) (es : List ℕ) (n : ℕ) → n ≤ end_of p es → has_cause p es n ≡ false → n < end_of p es
before_end p es n l h = elim (cases_lt n (end_of p es)) [ inl k ↦ k | inr k ↦ absurd (opposite (has_cause p es n) (let e : end_of p es ≡ n = omega arith in subst (λ m. has_cause p es m ≡ true) e (cause_at_end p es)) h) ]

-- ---- at the end

here : (p : Program) (s : Entries) (limit : ℕ) (w : World) (n : ℕ) (o : Option ℕ) → IsRun p s limit w n → o ≡ slice_get s.list n → cause_at p s.list n ≡ cause_in p w.state o
here p s limit w n o is e = ap (λ v. cause_in p v (slice_get s.list n)) (sym is.state) ∙ ap (cause_in p w.state) (sym e)

pub at_end : (p : Program) (s : Entries) (limit : ℕ) (w : World) (n : ℕ) (o : Option ℕ) (c : EndCause) → IsRun p s limit w n → o ≡ slice_get s.list n → cause_in p w.state o ≡ Some c
    → (n ≡ end_of p s.list) × (cause_at p s.list n ≡ Some c) × (n ≡ n)
at_end p s limit w n o c is e h =
    let at = here p s limit w n o is e ∙ h in
    (is_end p s.list n is.within (ap is_some at), at, refl)

pub finished_cause : (p : Program) (w : State) (o : Option ℕ) → all_finished w ≡ true → cause_in p w o ≡ Some end.Finished
finished_cause p w o h = ap (λ b. cond b (Some end.Finished) (cond (is_stuck w) (Some end.Stuck) (next_cause p w o))) h

pub stuck_cause : (p : Program) (w : State) (o : Option ℕ) → all_finished w ≡ false → is_stuck w ≡ true → cause_in p w o ≡ Some end.Stuck
stuck_cause p w o h k = ap (λ b. cond b (Some end.Finished) (cond (is_stuck w) (Some end.Stuck) (next_cause p w o))) h ∙ ap (λ b. cond b (Some end.Stuck) (next_cause p w o)) k

pub other_cause : (p : Program) (w : State) (o : Option ℕ) → all_finished w ≡ false → is_stuck w ≡ false → cause_in p w o ≡ next_cause p w o
other_cause p w o h k = ap (λ b. cond b (Some end.Finished) (cond (is_stuck w) (Some end.Stuck) (next_cause p w o))) h ∙ ap (λ b. cond b (Some end.Stuck) (next_cause p w o)) k

pub finished_here : (p : Program) (s : Entries) (limit : ℕ) (w : World) (n : ℕ) → IsRun p s limit w n → all_finished w.state ≡ true
    → (n ≡ end_of p s.list) × (cause_at p s.list n ≡ Some end.Finished) × (n ≡ n)
finished_here p s limit w n is f = at_end p s limit w n (slice_get s.list n) end.Finished is refl (finished_cause p w.state (slice_get s.list n) f)

pub stuck_here : (p : Program) (s : Entries) (limit : ℕ) (w : World) (n : ℕ) → IsRun p s limit w n → all_finished w.state ≡ false → is_stuck w.state ≡ true
    → (n ≡ end_of p s.list) × (cause_at p s.list n ≡ Some end.Stuck) × (n ≡ n)
stuck_here p s limit w n is f k = at_end p s limit w n (slice_get s.list n) end.Stuck is refl (stuck_cause p w.state (slice_get s.list n) f k)

pub schedule_here : (p : Program) (s : Entries) (limit : ℕ) (w : World) (n : ℕ) → IsRun p s limit w n → all_finished w.state ≡ false → is_stuck w.state ≡ false → None ≡ slice_get s.list n
    → (n ≡ end_of p s.list) × (cause_at p s.list n ≡ Some end.Schedule) × (n ≡ n)
schedule_here p s limit w n is f g e = at_end p s limit w n None end.Schedule is e (other_cause p w.state None f g)

pub fault_here : (p : Program) (s : Entries) (limit : ℕ) (w : World) (n : ℕ) (i : ℕ) (fault : Fault) → IsRun p s limit w n → all_finished w.state ≡ false → is_stuck w.state ≡ false → Some i ≡ slice_get s.list n → step_of p w.state i ≡ Faults fault
    → (n ≡ end_of p s.list) × (cause_at p s.list n ≡ Some (end.Fault fault)) × (n ≡ n)
fault_here p s limit w n i fault is f g e due =
    at_end p s limit w n (Some i) (end.Fault fault) is e (other_cause p w.state (Some i) f g ∙ ap (λ o. option_map (λ x. end.Fault x) (fault_in o)) due)

-- ---- what is known at a position

pub sound_here : (p : Program) (s : Entries) (limit : ℕ) (w : World) (n : ℕ) → IsRun p s limit w n → IsSound p w.state
sound_here p s limit w n is = subst (IsSound p) (sym is.state) (is.right n (omega arith)).sound

pub count_here : (p : Program) (s : Entries) (limit : ℕ) (w : World) (n : ℕ) → IsRun p s limit w n → length w.state.statuses.list ≡ length (start_of p).statuses.list
count_here p s limit w n is = ap (λ (t : State). length t.statuses.list) is.state ∙ (is.right n (omega arith)).count

-- ---- the next entry

-- an invocation of the schedule is one of the state
pub entry_within : (p : Program) (s : Entries) (limit : ℕ) (w : World) (n i : ℕ) (o : Option ℕ) → IsRun p s limit w n → o ≡ Some i → IfSome o (λ k. k < s.invocations) → i < length w.state.statuses.list
entry_within p s limit w n i None is e below = absurd (cc)
entry_within p s limit w n i (Some j) is e below =
    let same : j ≡ i = cc in
    let within : j < s.invocations = below in
    let count = count_here p s limit w n is in
    let fits : s.invocations ≡ length (start_of p).statuses.list = is.fits in
    omega arith

-- a place with an entry is below the number of them
pub place_within : (entries : List ℕ) (n : ℕ) (o : Option ℕ) → o ≡ slice_get entries n → IsSome o → n < length entries
place_within entries n None e some = absurd (cc)
place_within entries n (Some i) e some = slice_get_within entries n i (sym e)

-- ---- one event more

pub idled : (p : Program) (w : World) (i : ℕ) (t : World) (h : Happening) → step_of p w.state i ≡ Idles → t.state ≡ w.state → IsRecorded (idle i) (weight_of p w.state i) w t → h ≡ idle i → WasMade p w i t h
idled p w i t h due same recorded e = record {
  state = same ∙ ap (λ o. state_after o w.state) (sym due);
  happening = e ∙ ap (λ o. happening_in o i) (sym due);
  faultless = ap fault_in due;
  count = ap (λ (s : State). length s.statuses.list) same;
  recorded = record {
    event = recorded.event;
    happening = recorded.happening ∙ sym e;
    leads = recorded.leads;
    small = recorded.small;
    ring = recorded.ring;
    limit = recorded.limit;
  };
}

pub moved : (p : Program) (w : World) (i : ℕ) (t : World) (h : Happening) → step_of p w.state i ≡ Moves h t.state → IsRecorded h (weight_of p w.state i) w t
    → length t.state.statuses.list ≡ length w.state.statuses.list → WasMade p w i t h
moved p w i t h due recorded many = record {
  state = ap (λ o. state_after o w.state) (sym due);
  happening = ap (λ o. happening_in o i) (sym due);
  faultless = ap fault_in due;
  count = many;
  recorded = recorded;
}

went_on : (p : Program) (s : Entries) (limit : ℕ) (w : World) (n i : ℕ) → IsRun p s limit w n → all_finished w.state ≡ false → is_stuck w.state ≡ false → Some i ≡ slice_get s.list n → fault_in (step_of p w.state i) ≡ None → n < end_of p s.list
went_on p s limit w n i is f k e none =
    before_end p s.list n is.within
    (ap is_some (here p s limit w n (Some i) is e ∙ other_cause p w.state (Some i) f k ∙ ap (option_map (λ f. end.Fault f)) none))

-- the state of a run and the outcome of its next event
outcome_here : (p : Program) (s : Entries) (limit : ℕ) (w : World) (n i : ℕ) → IsRun p s limit w n → happening_in (step_of p w.state i) i ≡ happening_in (step_of p (run p s.list n) i) i
outcome_here p s limit w n i is = ap (λ v. happening_in (step_of p v i) i) is.state

happened : (p : Program) (s : Entries) (limit : ℕ) (w : World) (n i : ℕ) (t : World) (h : Happening) → IsRun p s limit w n → Some i ≡ slice_get s.list n → WasMade p w i t h → happening_at p s.list n ≡ Some h
happened p s limit w n i t h is e made =
    ap (option_map (λ j. happening_in (step_of p (run p s.list n) j) j)) (sym e)
    ∙ ap Some (sym (made.happening ∙ outcome_here p s limit w n i is))

pub goes_on : (p : Program) (s : Entries) (limit : ℕ) (w : World) (n : ℕ) (i : ℕ) (t : World) (h : Happening) → IsRun p s limit w n → all_finished w.state ≡ false → is_stuck w.state ≡ false → Some i ≡ slice_get s.list n → WasMade p w i t h
    → (n < end_of p s.list) × (happening_at p s.list n ≡ Some h) × (n + 1 ≡ n + 1)
goes_on p s limit w n i t h is f g e made = (went_on p s limit w n i is f g e made.faultless, happened p s limit w n i t h is e made, refl)

module _ (p : Program) (s : Entries) (limit : ℕ) (w : World) (n i : ℕ) (t : World) (h : Happening) (is : IsRun p s limit w n) (e : Some i ≡ slice_get s.list n) (made : WasMade p w i t h) where
  abbrev v : Event
  v = made.recorded.event

  entry : slice_index s.list n ≡ i
  entry = entry_is s.list n i e

  event_is : v.happening ≡ (moment_at p s.list n).happening
  event_is =
      made.recorded.happening ∙ made.happening ∙ outcome_here p s limit w n i is
      ∙ ap (λ j. happening_in (step_of p (run p s.list n) j) j) (sym entry)

  small : size_of v ≤ weight p s.list n
  small =
      let same : weight_of p w.state i ≡ weight p s.list n = ap (λ x. weight_of p x i) is.state ∙ ap (weight_of p (run p s.list n)) (sym entry) in
      let most = made.recorded.small in
      omega arith

  ring_is : t.ring ≡ fitting limit (v ∷ w.ring)
  ring_is = made.recorded.ring ∙ ap (λ l. fitting l (v ∷ w.ring)) is.room

  light : AreLight (weight p s.list) (suc n) (v ∷ w.ring)
  light =
      let one : n ≡ suc n - 1 = omega arith in
      (subst (λ (m : ℕ). size_of v ≤ weight p s.list m) one small, subst (λ (m : ℕ). AreLight (weight p s.list) m w.ring) one is.light)

  state_is : t.state ≡ run p s.list (suc n)
  state_is = made.state ∙ ap (λ x. state_after (step_of p x i) x) is.state ∙ ap (λ o. event p o (run p s.list n)) e

  right : IsSound p t.state → (k : ℕ) → k ≤ suc n → IsRight p s.list k
  right sound k l =
      elim (cases_lt k (suc n)) [
        | inl below ↦ is.right k (omega arith)
        | inr above ↦ (
            let same : suc n ≡ k = omega arith in
            subst (IsRight p s.list) same (record {
              sound = subst (IsSound p) state_is sound;
              count = ap (λ (x : State). length x.statuses.list) (sym state_is) ∙ made.count ∙ count_here p s limit w n is;
            }))
      ]

  pub runs_on_to : all_finished w.state ≡ false → is_stuck w.state ≡ false → IsSound p t.state → IsRun p s limit t (suc n)
  runs_on_to f g sound =
      let below = went_on p s limit w n i is f g e made.faultless in
      let shorter = fitting_length limit (v ∷ w.ring) in
      let so_far = is.made in
      record {
        state = state_is;
        past = subst (λ (r : List Event). past r t.state ≡ take (length r) (moments_below p s.list (suc n))) (sym ring_is)
            (fitting_more p s.list n limit v w.ring w.state t.state event_is made.recorded.leads is.state is.past shorter);
        made = subst (λ (r : List Event). length r ≤ suc n) (sym ring_is) (omega arith);
        within = omega arith;
        right = right sound;
        fits = is.fits;
        light = subst (AreLight (weight p s.list) (suc n)) (sym ring_is) (fitting_light (weight p s.list) (suc n) limit (v ∷ w.ring) light);
        size = subst (λ (r : List Event). size r ≤ limit) (sym ring_is) (fitting_size limit (v ∷ w.ring));
        room = made.recorded.limit ∙ is.room;
        some = is.some;
      }

  pub keeps_on_to : (kept_in w n ≤ kept_in t (suc n)) × (kept_in t (suc n) ≤ max (kept_in w n) (window limit p s.list (suc n)))
  keeps_on_to =
      let so_far = is.made in
      let keeps = keeps_window p s.list (suc n) limit (v ∷ w.ring) light (omega arith) in
      let same : length t.ring ≡ length (fitting limit (v ∷ w.ring)) = ap length ring_is in
      (omega arith, omega arith)

pub runs_on : (p : Program) (s : Entries) (limit : ℕ) (w : World) (n : ℕ) (i : ℕ) (t : World) (h : Happening) → IsRun p s limit w n → all_finished w.state ≡ false → is_stuck w.state ≡ false → Some i ≡ slice_get s.list n → WasMade p w i t h → IsSound p t.state
    → IsRun p s limit t (n + 1)
runs_on p s limit w n i t h is f g e made sound = rw add-one (runs_on_to p s limit w n i t h is e made f g sound)

pub keeps_on : (p : Program) (s : Entries) (limit : ℕ) (w : World) (n : ℕ) (i : ℕ) (t : World) (h : Happening) → IsRun p s limit w n → Some i ≡ slice_get s.list n → WasMade p w i t h
    → (kept_in w n ≤ kept_in t (n + 1)) × (kept_in t (n + 1) ≤ max (kept_in w n) (window limit p s.list (n + 1)))
keeps_on p s limit w n i t h is e made = rw add-one (keeps_on_to p s limit w n i t h is e made)

-- ---- one event less

-- what undoing an event leaves
pub record WentBack (p : Program) (s : Entries) (limit : ℕ) (w : World) (n : ℕ) (h : Happening) (t : World) : Type 0 where
  pub some : 0 < length w.ring
  pub made : 1 ≤ n
  pub happening : happening_before p s.list n ≡ Some h
  pub run : IsRun p s limit t (n - 1)
  pub kept : kept_in t (n - 1) ≡ kept_in w n

-- what leads back to something has an event
front_event : (ring rest : List Event) (s : State) (m : Moment) (ms : List Moment) → past ring s ≡ m ∷ ms → rest ≡ older ring → (v : Event) × (ring ≡ v ∷ rest)
front_event [] rest s m ms e r = absurd (cc)
front_event (v ∷ vs) rest s m ms e r = (v, ap (λ us. v ∷ us) (sym r))

none_made : (ring rest : List Event) (v : Event) → ring ≡ v ∷ rest → length ring ≤ 0 → ⊥
none_made ring rest v e l = let count : length ring ≡ suc (length rest) = ap length e in omega arith

module _ (p : Program) (s : Entries) (limit : ℕ) (w : World) (h : Happening) (t : World) (undone : past w.ring w.state ≡ record { happening = h; state = t.state } ∷ past t.ring t.state) (older_is : t.ring ≡ older w.ring) (same : t.limit ≡ w.limit) where
  abbrev now : Moment
  now = record { happening = h; state = t.state }

  front : (v : Event) × (w.ring ≡ v ∷ t.ring)
  front = front_event w.ring t.ring w.state now (past t.ring t.state) undone older_is

  pub went_back : (n : ℕ) → IsRun p s limit w n → WentBack p s limit w n h t
  went_back zero is = absurd (none_made w.ring t.ring front.0 front.1 is.made)
  went_back (suc m) is =
      let count : length w.ring ≡ suc (length t.ring) = ap length front.1 in
      let led : now ∷ past t.ring t.state ≡ take (suc (length t.ring)) (moments_below p s.list (suc m))
      = sym undone ∙ is.past ∙ ap (λ (k : ℕ). take k (moments_below p s.list (suc m))) count in
      let less = past_less p s.list m (length t.ring) now (past t.ring t.state) led in
      let state : t.state ≡ run p s.list m = ap (λ (x : Moment). x.state) less.0 in
      let happening : h ≡ (moment_at p s.list m).happening = ap (λ (x : Moment). x.happening) less.0 in
      let to = (end_is p s.list).to in
      let within = is.within in
      let made = is.made in
      let entry : slice_get s.list m ≡ Some (get_or s.list m 0) = slice_get-get_or s.list m 0 (omega arith) in
      let one : m ≡ suc m - 1 = omega arith in
      let light : AreLight (weight p s.list) (suc m) (front.0 ∷ t.ring) = subst (AreLight (weight p s.list) (suc m)) front.1 is.light in
      let sizes : size w.ring ≡ size_of front.0 + size t.ring = ap size front.1 in
      let size_here = is.size in
      record {
        some = omega arith;
        made = omega arith;
        happening = happening_is p s.list m (get_or s.list m 0) (sym entry) ∙ ap Some (sym happening);
        run = subst (IsRun p s limit t) one (record {
          state = state;
          past = less.1;
          made = omega arith;
          within = omega arith;
          right = λ k l. is.right k (omega arith);
          fits = is.fits;
          light = subst (λ (k : ℕ). AreLight (weight p s.list) k t.ring) (sym one) light.1;
          size = omega arith;
          room = same ∙ is.room;
          some = is.some;
        });
        kept = omega arith;
      }

-- ---- the start, and a copy

pub started : (p : Program) (s : Entries) (limit : ℕ) (w : World) → ◌≡◌ {A = World} w (record { state = start_of p; ring = []; limit = limit }) → IsSound p w.state
    → s.invocations ≡ length (start_of p).statuses.list → 1 ≤ limit → IsRun p s limit w 0
started p s limit w e sound fits some =
    let state : w.state ≡ start_of p = ap (λ (x : World). x.state) e in
    let ring : w.ring ≡ [] = ap (λ (x : World). x.ring) e in
    record {
      state = state;
      past = subst (λ (r : List Event). past r w.state ≡ take (length r) []) (sym ring) refl;
      made = subst (λ (r : List Event). length r ≤ 0) (sym ring) (omega arith);
      within = omega arith;
      right = λ k l. (let zero_is : 0 ≡ k = omega arith in subst (IsRight p s.list) zero_is (record { sound = subst (IsSound p) state sound; count = refl }));
      fits = fits;
      light = subst (AreLight (weight p s.list) 0) (sym ring) tt;
      size = subst (λ (r : List Event). size r ≤ limit) (sym ring) (omega arith);
      room = ap (λ (x : World). x.limit) e;
      some = some;
    }

pub copied : (p : Program) (s : Entries) (old limit : ℕ) (w t : World) (n : ℕ) → IsRun p s old w n → ◌≡◌ {A = World} t (record { state = w.state; ring = []; limit = limit }) → 1 ≤ limit → IsRun p s limit t n
copied p s old limit w t n is e some =
    let ring : t.ring ≡ [] = ap (λ (x : World). x.ring) e in
    record {
      state = ap (λ (x : World). x.state) e ∙ is.state;
      past = subst (λ (r : List Event). past r t.state ≡ take (length r) (moments_below p s.list n)) (sym ring) refl;
      made = subst (λ (r : List Event). length r ≤ n) (sym ring) (omega arith);
      within = is.within;
      right = is.right;
      fits = is.fits;
      light = subst (AreLight (weight p s.list) n) (sym ring) tt;
      size = subst (λ (r : List Event). size r ≤ limit) (sym ring) (omega arith);
      room = ap (λ (x : World). x.limit) e;
      some = some;
    }

-- ---- why a run ends at a position

no_cause : (o : Option EndCause) → is_some o ≡ false → o ≡ None
no_cause None h = refl
no_cause (Some c) h = absurd (cc)

cause_or_none : (p : Program) (es : List ℕ) (n : ℕ) (b : Bool) → n ≤ end_of p es → nat_eq n (end_of p es) ≡ b → cause_at p es n ≡ cond b (cause_at p es n) None
cause_or_none p es n true l h = refl
cause_or_none p es n false l h =
    let other : n < end_of p es = let ne = eqb-false n (end_of p es) h in omega arith in
    no_cause (cause_at p es n) ((end_is p es).before n (omega arith) other)

pub cause_is : (v : Held) (limit : ℕ) (w : World) (n : ℕ) (s : Entries) (p : Program) (o : Option ℕ) (r : Result (Option EndCause) NoMemory) → IsRun p s limit w n → o ≡ slice_get s.list n
    → ◌≡◌ {A = Held} (record { program = p; schedule = s; position = n }) v → IfOk r (λ cause. cause ≡ cause_in p w.state o) → IfOk r (λ cause. cause ≡ end_cause_in v)
cause_is v limit w n s p o (Ok cause) is e view due =
    due
    ∙ sym (here p s limit w n o is e)
    ∙ cause_or_none p s.list n (nat_eq n (end_of p s.list)) is.within refl
    ∙ ap end_cause_in view
cause_is v limit w n s p o (Err error) is e view due = due

-- ---- going back

run_cost_is : (end from target : ℕ) → from ≡ 0 → target ≤ end → run_cost end from target ≡ target
run_cost_is end from target z h = by (nat_lt end target) refl
  where
    by : (b : Bool) → nat_lt end target ≡ b → run_cost end from target ≡ target
    by true e = let l : end < target = ltb-true end target e in absurd (omega arith)
    by false e = rw (e, z) (omega (arith, h))

-- a run on from the start to a position takes a step for each event
pub made_cost : (end from target before now at : ℕ) → from ≡ 0 → target ≤ end → at ≡ max from (min target end) → before + (at - from) ≤ now → now ≤ before + run_cost end from target
    → (at ≡ target) × (now ≡ before + target)
made_cost end from target before now at z h is counted cost =
    let most : now ≤ before + target = subst (λ (n : ℕ). now ≤ before + n) (run_cost_is end from target z h) cost in
    let there : at ≡ target = is ∙ rw z (omega (arith, h)) in
    (there, omega (arith, z, there, counted, most))

pub made_most : (end from target before now at : ℕ) → from ≡ 0 → target ≤ end → before + (at - from) ≤ now → now ≤ before + run_cost end from target
    → (before ≤ now) × (now ≤ before + target)
made_most end from target before now at z h counted cost =
    (omega (arith, counted), subst (λ (n : ℕ). now ≤ before + n) (run_cost_is end from target z h) cost)

-- the event that is taken back is the next one at the position before
pub event_before : (p : Program) (es : List ℕ) (n m : ℕ) (h : Happening) → 0 < n → m ≡ n - 1 → happening_at p es m ≡ Some h → happening_before p es n ≡ Some h
event_before p es zero m h some at is = absurd (omega arith)
event_before p es (suc n) m h some at is =
    let same : n ≡ m = omega (arith, at) in
    ap (happening_at p es) same ∙ is

-- ---- a run from the start on, that is made again up to the position before

-- where it is and what it took so far
module _ (end position from at before now : ℕ) (zero_is : from ≡ 0) (within : position ≤ end) (some : 0 < position) (counted : before + (at - from) ≤ now) (cost : now ≤ before + run_cost end from (position - 1)) where
  pub again_most : now ≤ before + position
  again_most =
      let most = made_most end from (position - 1) before now at zero_is (omega arith) counted cost in
      let bound : now ≤ before + (position - 1) = most.1 in
      omega (arith, bound)

  pub again_made : at ≡ max from (min (position - 1) end) → (at ≡ position - 1) × (now ≡ before + (position - 1))
  again_made is = made_cost end from (position - 1) before now at zero_is (omega arith) is counted cost
