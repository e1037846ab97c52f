-- Runs of a program by two schedules, of which one is the other after exchanges of free events.
use Rattle.std.proofs.Common.{◌≡◌, ◌≢◌, ◌∙◌, ℕ, zero, suc, ◌+◌, ◌-◌, ◌≤◌, ◌<◌, false, List, [], ◌∷◌, length, Some, slice_get, inl, inr, refl, sym, ap, subst, arith}
use Rattle.std.specs.Prelude.{slice_index_or}
use Rattle.std.specs.List.{AllByRecursion}
use Rattle.spv_group.specs.Run.{event, run, state_after}
use Rattle.spv_touch.specs.Below.spv_machine.specs.Step.{Outcome, Idles, Moves, Faults, step_of}
use Rattle.spv_order.specs.Exchanges.{exchanged}
use Rattle.spv_order.specs.Order.{ConflictOn, Holds}
use Rattle.spv_order.specs.declared.events.Event.{Event}
use Rattle.spv_order.specs.declared.events.Leaves.{Leaves}
use Rattle.spv_exchanges.specs.Stretches.{AreBetween, AreEvents}
use Rattle.spv_touch.specs.Below.spv_state.specs.Program.{Program}
use Rattle.spv_touch.specs.Below.spv_state.specs.Start.{start_of}
use Rattle.spv_touch.specs.Below.spv_state.specs.State.{State}
use Rattle.spv_touch.specs.Touching.{IsEvent, Touching, arrives_of, touched_of}
use Rattle.spv_touch.specs.Views.{AreApart, LookAlike, StoreFits}
use Rattle.spv_touch.proofs.Exports.{faults, idles, in_turn, left, made, same_arrival, same_touched, unchanged}
use Rattle.spv_exchanges.proofs.LookLemmas.{Own, fits_alike, own_of, same_own, told, turned}
use Rattle.spv_exchanges.proofs.Reorderings.{Machine}
use Rattle.spv_exchanges.proofs.Reorderings as machines

module _ (p : Program) where
  abbrev next : State → ℕ → State
  next s i = state_after (step_of p s i) s

  abbrev reads_of : State → ℕ → List Leaves
  reads_of s i = (touched_of p s i).reads

  abbrev writes_of : State → ℕ → List Leaves
  writes_of s i = (touched_of p s i).writes

  -- what it stores has the outline of what is there, and it doesn't arrive at a barrier
  abbrev Quiet : State → ℕ → Type 0
  Quiet s i = StoreFits p s i × (arrives_of p s i ≡ false)

  turned_apart : (r q : List Leaves) → AreApart r q → AreApart q r
  turned_apart r q apart root leaf a b = apart root leaf b a

  still_quiet : (i : ℕ) (r : List Leaves) (s t : State) → LookAlike i r s t → AreApart r (reads_of s i) → Quiet s i → Quiet t i
  still_quiet i r s t alike apart quiet = (fits_alike p i r s t alike apart quiet.0, sym (same_arrival p s t i r alike apart) ∙ quiet.1)

  left_here : (i j : ℕ) (s : State) → Quiet s i → i ≢ j → LookAlike j (writes_of s i) s (next s i)
  left_here i j s quiet other = by (step_of p s i) refl
    where
      by : (o : Outcome) → step_of p s i ≡ o → LookAlike j (writes_of s i) s (state_after o s)
      by Idles is = unchanged j (writes_of s i) s
      by (Faults fault) is = unchanged j (writes_of s i) s
      by (Moves h then) is = left p s then i h quiet.0 quiet.1 j other is

  made_here : (i : ℕ) (r : List Leaves) (s t : State) → Quiet s i → LookAlike i r s t → AreApart r (reads_of s i) → LookAlike i r (next s i) (next t i)
  made_here i r s t quiet alike apart = by (step_of p s i) refl
    where
      by : (o : Outcome) → step_of p s i ≡ o → LookAlike i r (state_after o s) (next t i)
      by Idles is = subst (λ (o : Outcome). LookAlike i r s (state_after o t)) (sym (idles p s t i r alike apart is)) alike
      by (Faults fault) is = subst (λ (o : Outcome). LookAlike i r s (state_after o t)) (sym (faults p s t i r alike apart fault is)) alike
      by (Moves h then) is =
          let m = made p s then i h quiet.0 quiet.1 t r alike apart is in
          subst (λ (o : Outcome). LookAlike i r then (state_after o t)) (sym m.1) m.2

  abbrev machine : Machine
  machine = record {
    State = State;
    Places = List Leaves;
    Own = Own;
    next = next;
    reads_of = reads_of;
    writes_of = writes_of;
    Quiet = Quiet;
    Sees = LookAlike;
    Apart = AreApart;
    own = own_of;
    turned_apart = turned_apart;
    turned = turned;
    joined = in_turn;
    same_own = same_own;
    same_reads = λ i r s t alike apart. ap (λ (x : Touching). x.reads) (same_touched p s t i r alike apart);
    same_writes = λ i r s t alike apart. ap (λ (x : Touching). x.writes) (same_touched p s t i r alike apart);
    still_quiet = still_quiet;
    left = left_here;
    made = made_here;
    told = told;
  }

  abbrev after : ℕ → List ℕ → State → State
  after = machines.after machine

  -- ---- runs

  more : (n : ℕ) (es : List ℕ) (s : State) → after (suc n) es s ≡ event p (slice_get es n) (after n es s)
  more zero [] s = refl
  more (suc n) [] s = refl
  more zero (x ∷ xs) s = refl
  more (suc n) (x ∷ xs) s = more n xs (next s x)

  run_is : (n : ℕ) (es : List ℕ) → run p es n ≡ after n es (start_of p)
  run_is zero es = refl
  run_is (suc n) es = ap (event p (slice_get es n)) (run_is n es) ∙ sym (more n es (start_of p))

  item_there : (events : List Event) (k : ℕ) → k < length events → (e : Event) × (slice_get events k ≡ Some e)
  item_there [] k low = absurd (omega (arith, low))
  item_there (e ∷ es) zero low = (e, refl)
  item_there (e ∷ es) (suc k) low = item_there es k (omega (arith, low))

  module _ (entries : List ℕ) (from to : ℕ) (events : List Event) (low : from ≤ to) (within : to ≤ length entries)
      (fits : (n : ℕ) → from ≤ n → n < to → StoreFits p (run p entries n) (slice_index_or entries n 0))
      (are : AreEvents p entries from to events)
      (quietly : (k : ℕ) (e : Event) → slice_get events k ≡ Some e → e.arrives ≡ false)
      (apart : (j k root leaf : ℕ) (e f : Event) → j ≢ k → slice_get events j ≡ Some e → slice_get events k ≡ Some f → ConflictOn e f root leaf → ⊥) where
    abbrev n : ℕ
    n = to - from

    abbrev rest : List ℕ
    rest = machines.from_on machine from entries

    abbrev first : State
    first = after from entries (start_of p)

    ends : from + n ≡ to
    ends = omega (arith, low)

    state_at : (k : ℕ) → run p entries (from + k) ≡ after k rest first
    state_at k = run_is (from + k) entries ∙ machines.in_two machine from k entries (start_of p)

    entry_at : (k : ℕ) → slice_index_or entries (from + k) 0 ≡ slice_index_or rest k 0
    entry_at k = machines.index_on machine from k entries

    record EventAt (k : ℕ) : Type 0 where
      pub event : Event
      pub at : slice_get events k ≡ Some event
      pub is : IsEvent p (after k rest first) (slice_index_or rest k 0) event

    event_at : (k : ℕ) → k < n → EventAt k
    event_at k below =
        let many = are.count in
        let e = item_there events k (omega (arith, many, below)) in
        record {
          event = e.0;
          at = e.1;
          is = subst (λ (i : ℕ). IsEvent p (after k rest first) i e.0) (entry_at k) (subst (λ (s : State). IsEvent p s (slice_index_or entries (from + k) 0) e.0) (state_at k) (are.each k e.0 e.1));
        }

    quiet_at : (k : ℕ) → k < n → Quiet (after k rest first) (slice_index_or rest k 0)
    quiet_at k below =
        let e = event_at k below in
        let f = fits (from + k) (omega arith) (omega (arith, below, ends)) in (
          subst (λ (i : ℕ). StoreFits p (after k rest first) i) (entry_at k) (subst (λ (s : State). StoreFits p s (slice_index_or entries (from + k) 0)) (state_at k) f),
          sym e.is.arrives ∙ quietly k e.event e.at,
        )

    free_at : (j k : ℕ) → j < k → k < n → machines.IsFree machine (machines.touch_at machine rest first j) (machines.touch_at machine rest first k)
    free_at j k before below other =
        let e = event_at j (omega (arith, before, below)) in
        let f = event_at k below in
        let distinct : j ≢ k = λ same. omega (arith, before, same) in
        let invocations : e.event.invocation ≢ f.event.invocation = λ same. other (sym e.is.invocation ∙ same ∙ f.is.invocation) in
        let written : (root leaf : ℕ) → Holds (writes_of (after j rest first) (slice_index_or rest j 0)) root leaf → Holds e.event.writes.items root leaf
        = λ root leaf h. subst (λ (l : List Leaves). Holds l root leaf) (sym e.is.writes) h in
        let read : (root leaf : ℕ) → Holds (reads_of (after j rest first) (slice_index_or rest j 0)) root leaf → Holds e.event.reads.items root leaf
        = λ root leaf h. subst (λ (l : List Leaves). Holds l root leaf) (sym e.is.reads) h in
        let written_then : (root leaf : ℕ) → Holds (writes_of (after k rest first) (slice_index_or rest k 0)) root leaf → Holds f.event.writes.items root leaf
        = λ root leaf h. subst (λ (l : List Leaves). Holds l root leaf) (sym f.is.writes) h in
        let read_then : (root leaf : ℕ) → Holds (reads_of (after k rest first) (slice_index_or rest k 0)) root leaf → Holds f.event.reads.items root leaf
        = λ root leaf h. subst (λ (l : List Leaves). Holds l root leaf) (sym f.is.reads) h in (
          λ root leaf a b. apart j k root leaf e.event f.event distinct e.at f.at (invocations, inr (written root leaf a), inl (read_then root leaf b), inl (written root leaf a)),
          λ root leaf a b. apart j k root leaf e.event f.event distinct e.at f.at (invocations, inr (written root leaf b), inr (written_then root leaf a), inl (written root leaf b)),
          λ root leaf a b. apart j k root leaf e.event f.event distinct e.at f.at (invocations, inl (read root leaf b), inr (written_then root leaf a), inr (written_then root leaf a)),
        )

    pub same_run : (places : List ℕ) → AreBetween from to places → run p (exchanged places entries) to ≡ run p entries to
    same_run places between =
        let among : machines.AreAmong machine from n places = subst (λ (m : ℕ). AllByRecursion (λ k. (from ≤ k) × (k + 2 ≤ m)) places) (sym ends) between in
        let quiet : machines.AreQuiet machine n rest first = machines.all_quiet machine n rest first (λ k below short. quiet_at k below) in
        let free : machines.AreFree machine (machines.touches machine n rest first) = machines.all_free machine n rest first (λ j k before below short. free_at j k before below) in
        let same : after (from + n) (exchanged places entries) (start_of p) ≡ after (from + n) entries (start_of p)
        = machines.all_reordered machine from n places entries (start_of p) among (omega (arith, ends, within)) quiet free in
        run_is to (exchanged places entries) ∙ ap (λ (m : ℕ). after m (exchanged places entries) (start_of p)) (sym ends) ∙ same
        ∙ ap (λ (m : ℕ). after m entries (start_of p)) ends ∙ sym (run_is to entries)
