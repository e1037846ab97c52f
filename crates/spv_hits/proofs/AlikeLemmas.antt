-- Calls that tell the same of a watch.
use Rattle.std.proofs.Common.{◌≡◌, ◌≢◌, ◌∙◌, ◌⊎◌, inl, inr, ap, sym, subst, refl, arith, ℕ, zero, suc, ◌+◌, ◌-◌, ◌≤◌, ◌<◌, ◌==◌, ◌||◌, ◌++◌, not, Bool, true, false, cond, List, [], get_or, length, take, Option, Some, None}
use Rattle.std.specs.Prelude.{slice_get}
use Rattle.std.specs.List.{All}
use Rattle.std.specs.Option.{IsSomeAnd, option_and_then, option_map, option_map_or}
use Rattle.std.proofs.lemmas.Bool.{cases_eq, cases_lt}
use Rattle.std.proofs.lemmas.List.{take-append-drop}
use Rattle.std.proofs.lemmas.Option.{slice_get_cases, slice_get_past, slice_get_within}
use Rattle.std.proofs.Math.Seq.{take-length}
use Rattle.spv_base.specs.declared.values.PassedEvent.{PassedEvent}
use Rattle.spv_base.specs.declared.happenings.Happening.{Happening}
use Rattle.spv_dbg.specs.declared.frames.ShownFrame.{ShownFrame}
use Rattle.spv_dbg.specs.Tables.{Tables, with_id}
use Rattle.spv_expr.specs.Bits.{events_in, global_bit, if_global, inlined_in, local_bit, variable_bit}
use Rattle.spv_expr.specs.Groups.{is_event_of}
use Rattle.spv_expr.specs.Variables.{meant}
use Rattle.spv_frame.specs.Frames.{Held as Frame}
use Rattle.spv_frame.specs.Stacks.{Stacked}
use Rattle.spv_mem.specs.Memory.{Held as Memory}
use Rattle.spv_state.specs.Program.{Program}
use Rattle.spv_state.specs.State.{State, frames_of}
use Rattle.spv_stops.specs.Watches.{WatchKey}
use Rattle.spv_group.specs.Group.{Held as Group, entries_in}
use Rattle.spv_group.specs.Run.{happening_before}
use Rattle.spv_group.proofs.Exports as events
use Rattle.spv_group.specs.Touches.{FrameChange, HasPassed, IsTouch, Popped, Pushed, Same, Touch, but_last, count_before}
use Rattle.spv_hits.specs.Kept.{AreSame, IsAlike, last_of}
use Rattle.spv_hits.specs.Watches.{bits_in, frame_of, has_frame, watched_in}
use Rattle.spv_hits.proofs.ReadLemmas.{bits_elsewhere}

-- ---- what a watch asks calls for

abbrev calls_of : List Frame → Stacked
calls_of frames = record { frames = frames; room = 0 }

abbrev passed : Option Frame → List PassedEvent
passed o = option_map_or (λ (f : Frame). f.events) o []

-- a frame as a watch sees it
abbrev seen : Frame → ℕ × List PassedEvent
seen f = (f.plan.function, f.events)

events_are : (b : Bool) (x : ShownFrame) (fs : List Frame) → events_in (calls_of fs) (cond b (Some x) None) ≡ cond b (passed (slice_get fs x.depth)) []
events_are true x fs = refl
events_are false x fs = refl

watch_events : (k : WatchKey) (fs : List Frame) → events_in (calls_of fs) (frame_of k) ≡ cond k.local (passed (slice_get fs k.depth)) []
watch_events k fs = events_are k.local _ fs

-- the bits of a variable are those that events tell
same_events : (t : Tables) (m : Memory) (i v j : ℕ) (f : Option ShownFrame) (s u : Stacked) → events_in s f ≡ events_in u f → variable_bit m i t s f v j ≡ variable_bit m i t u f v j
same_events t m i v j f s u e =
    ap (λ es. option_map_or (λ d. global_bit m i t d j) (option_and_then if_global (with_id t v)) (local_bit m i t es (meant t (inlined_in f) v) j)) e

watched_alike : (t : Tables) (k : WatchKey) (m : Memory) (fs gs : List Frame) → has_frame k fs ≡ has_frame k gs
    → ((j : ℕ) → variable_bit m k.inv t (calls_of fs) (frame_of k) k.variable j ≡ variable_bit m k.inv t (calls_of gs) (frame_of k) k.variable j)
    → watched_in t k m fs ≡ watched_in t k m gs
watched_alike t k m fs gs there same =
    ap (λ b. cond (not k.local || b) (Some (bits_in t k m fs)) None) there
    ∙ ap (λ bits. cond (not k.local || has_frame k gs) (Some bits) None) (bits_elsewhere _ _ k.first k.first k.count (λ j _. same (k.first + j)))

function_seen : (o : Option Frame) (n : ℕ) → option_map_or (λ (f : Frame). f.plan.function == n) o false ≡ option_map_or (λ (x : ℕ × List PassedEvent). x.0 == n) (option_map seen o) false
function_seen None n = refl
function_seen (Some f) n = refl

events_seen : (o : Option Frame) → passed o ≡ option_map_or (λ (x : ℕ × List PassedEvent). x.1) (option_map seen o) []
events_seen None = refl
events_seen (Some f) = refl

-- frames that a watch sees alike at its depth
alike_seen : (t : Tables) (k : WatchKey) (m : Memory) (fs gs : List Frame) → option_map seen (slice_get fs k.depth) ≡ option_map seen (slice_get gs k.depth) → watched_in t k m fs ≡ watched_in t k m gs
alike_seen t k m fs gs e =
    let there : has_frame k fs ≡ has_frame k gs =
    function_seen (slice_get fs k.depth) k.function ∙ ap (λ o. option_map_or (λ (x : ℕ × List PassedEvent). x.0 == k.function) o false) e ∙ sym (function_seen (slice_get gs k.depth) k.function) in
    let events : passed (slice_get fs k.depth) ≡ passed (slice_get gs k.depth) =
    events_seen (slice_get fs k.depth) ∙ ap (λ o. option_map_or (λ (x : ℕ × List PassedEvent). x.1) o []) e ∙ sym (events_seen (slice_get gs k.depth)) in
    watched_alike t k m fs gs there
    (λ j. same_events t m k.inv k.variable j (frame_of k) (calls_of fs) (calls_of gs) (watch_events k fs ∙ ap (λ es. cond k.local es []) events ∙ sym (watch_events k gs)))

-- events of other variables tell nothing of one
abbrev pub OthersTellNothing : Type 0
OthersTellNothing = (m : Memory) (inv : ℕ) (t : Tables) (s u : Stacked) (f : Option ShownFrame) (id : ℕ) (more : List PassedEvent) → events_in u f ≡ events_in s f ++ more
    → All (λ e. is_event_of t id e.word ≡ false) more → (j : ℕ) → variable_bit m inv t s f id j ≡ variable_bit m inv t u f id j

-- a frame that has passed some events more, none of them of the watch's variable
alike_more : OthersTellNothing → (t : Tables) (k : WatchKey) (m : Memory) (fs gs : List Frame) (f g : Frame) (more : List PassedEvent) → slice_get fs k.depth ≡ Some f → slice_get gs k.depth ≡ Some g
    → k.local ≡ true → f.plan.function ≡ g.plan.function → g.events ≡ f.events ++ more → All (λ e. is_event_of t k.variable e.word ≡ false) more → watched_in t k m fs ≡ watched_in t k m gs
alike_more law t k m fs gs f g more before behind local function events none =
    let there : has_frame k fs ≡ has_frame k gs =
    ap (λ o. option_map_or (λ (x : Frame). x.plan.function == k.function) o false) before ∙ ap (λ n. n == k.function) function ∙ ap (λ o. option_map_or (λ (x : Frame). x.plan.function == k.function) o false) (sym behind) in
    let was : events_in (calls_of fs) (frame_of k) ≡ f.events = watch_events k fs ∙ ap (λ b. cond b (passed (slice_get fs k.depth)) []) local ∙ ap passed before in
    let is : events_in (calls_of gs) (frame_of k) ≡ g.events = watch_events k gs ∙ ap (λ b. cond b (passed (slice_get gs k.depth)) []) local ∙ ap passed behind in
    watched_alike t k m fs gs there
    (law m k.inv t (calls_of fs) (calls_of gs) (frame_of k) k.variable more (is ∙ events ∙ ap (λ es. es ++ more) (sym was)) none)

-- ---- what an event did

seen_so : (o : Option Frame) (g : Frame) → IsSomeAnd o (HasPassed g.plan.function g.events) → option_map seen o ≡ Some (seen g)
seen_so None g is = absurd is
seen_so (Some f) g is = ap (λ n. Some (n, f.events)) is.function ∙ ap (λ es. Some (g.plan.function, es)) is.events

-- the frame that there is
record IsThere (o : Option Frame) (P : Frame → Type 0) : Type 0 where
  frame : Frame
  is : o ≡ Some frame
  has : P frame

frame_there : (o : Option Frame) (P : Frame → Type 0) → IsSomeAnd o P → IsThere o P
frame_there None P p = absurd p
frame_there (Some f) P p = record { frame = f; is = refl; has = p }

few_before : (c : FrameChange) (m n depth : ℕ) → c ≢ Popped → m ≡ count_before c n → n ≤ depth → m ≤ depth
few_before Same m n depth still e l = omega arith
few_before Pushed m n depth still e l = omega arith
few_before Popped m n depth still e l = absurd (still refl)

same_isn't_popped : Same ≢ Popped
same_isn't_popped e = absurd (cc)

same_isn't_pushed : Same ≢ Pushed
same_isn't_pushed e = absurd (cc)

module _ (t : Tables) (k : WatchKey) (x : Touch) (s u : State) (did : IsTouch x k.inv s u) where
  -- there is no frame at the watch's depth
  pub none_alike : slice_get (frames_of u k.inv) k.depth ≡ None → x.frames ≢ Popped → IsAlike t k s u
  none_alike none still m =
      let past : length (frames_of u k.inv) ≤ k.depth = by_cases (slice_get_cases (frames_of u k.inv) k.depth).1 in
      let before : slice_get (frames_of s k.inv) k.depth ≡ None = slice_get_past (frames_of s k.inv) k.depth (few_before x.frames _ _ k.depth still did.count past) in
      alike_seen t k m (frames_of s k.inv) (frames_of u k.inv) (ap (option_map seen) (before ∙ sym none))
    where
      by_cases : ((f : Frame) × (k.depth < length (frames_of u k.inv)) × (slice_get (frames_of u k.inv) k.depth ≡ Some f) × (get_or (frames_of u k.inv) k.depth f ≡ f))
          ⊎ ((length (frames_of u k.inv) ≤ k.depth) × (slice_get (frames_of u k.inv) k.depth ≡ None)) → length (frames_of u k.inv) ≤ k.depth
      by_cases (inl found) = absurd (cc (found.2, none))
      by_cases (inr past) = past.0

  -- there is one below the top
  pub below_alike : (g : Frame) → slice_get (frames_of u k.inv) k.depth ≡ Some g → k.depth + 1 < length (frames_of u k.inv) → IsAlike t k s u
  below_alike g is l m =
      alike_seen t k m (frames_of s k.inv) (frames_of u k.inv) (seen_so (slice_get (frames_of s k.inv) k.depth) g (did.below k.depth g l is) ∙ ap (option_map seen) (sym is))

  -- the frame before the event of the top one
  top_before : (g : Frame) → slice_get (frames_of u k.inv) k.depth ≡ Some g → length (frames_of u k.inv) ≤ k.depth + 1 → x.frames ≢ Pushed
      → IsSomeAnd (slice_get (frames_of s k.inv) k.depth) (HasPassed g.plan.function (but_last x.events g.events))
  top_before g is l came =
      let within : k.depth < length (frames_of u k.inv) = slice_get_within (frames_of u k.inv) k.depth g is in
      let last : length (frames_of u k.inv) - 1 ≡ k.depth = omega arith in
      subst (λ d. IsSomeAnd (slice_get (frames_of s k.inv) d) (HasPassed g.plan.function (but_last x.events g.events))) last
      (did.top g came (ap (slice_get (frames_of u k.inv)) last ∙ is))

  -- it is the top one, and none of the events that it has passed is of the watch's variable
  pub top_alike : OthersTellNothing → (g : Frame) → slice_get (frames_of u k.inv) k.depth ≡ Some g → length (frames_of u k.inv) ≤ k.depth + 1 → x.frames ≢ Pushed → k.local ≡ true
      → All (λ e. is_event_of t k.variable e.word ≡ false) (last_of x.events g.events) → IsAlike t k s u
  top_alike law g is l came local none m =
      let was = frame_there (slice_get (frames_of s k.inv) k.depth) (HasPassed g.plan.function (but_last x.events g.events)) (top_before g is l came) in
      alike_more law t k m (frames_of s k.inv) (frames_of u k.inv) was.frame g (last_of x.events g.events) was.is is local was.has.function
      (sym (take-append-drop (length g.events - x.events) g.events) ∙ ap (λ es. es ++ last_of x.events g.events) (sym was.has.events)) none

  -- it has passed no events
  quiet_top : (g : Frame) → slice_get (frames_of u k.inv) k.depth ≡ Some g → length (frames_of u k.inv) ≤ k.depth + 1 → x.frames ≢ Pushed → x.events ≡ 0 → IsAlike t k s u
  quiet_top g is l came quiet m =
      let none : length g.events - x.events ≡ length g.events = omega (arith, quiet) in
      let all : but_last x.events g.events ≡ g.events = ap (λ n. take n g.events) none ∙ take-length g.events in
      let was = subst (λ es. IsSomeAnd (slice_get (frames_of s k.inv) k.depth) (HasPassed g.plan.function es)) all (top_before g is l came) in
      alike_seen t k m (frames_of s k.inv) (frames_of u k.inv) (seen_so (slice_get (frames_of s k.inv) k.depth) g was ∙ ap (option_map seen) (sym is))

  own_alike : x.frames ≡ Same → x.events ≡ 0 → IsAlike t k s u
  own_alike frames quiet =
      let not_pushed : x.frames ≢ Pushed = λ e. same_isn't_pushed (sym frames ∙ e) in
      let not_popped : x.frames ≢ Popped = λ e. same_isn't_popped (sym frames ∙ e) in
      by_cases not_pushed not_popped (slice_get_cases (frames_of u k.inv) k.depth).1
    where
      at_top : (g : Frame) → slice_get (frames_of u k.inv) k.depth ≡ Some g → x.frames ≢ Pushed → (k.depth + 1 < length (frames_of u k.inv)) ⊎ (length (frames_of u k.inv) ≤ k.depth + 1) → IsAlike t k s u
      at_top g is came (inl l) = below_alike g is l
      at_top g is came (inr l) = quiet_top g is l came quiet

      by_cases : x.frames ≢ Pushed → x.frames ≢ Popped
          → ((f : Frame) × (k.depth < length (frames_of u k.inv)) × (slice_get (frames_of u k.inv) k.depth ≡ Some f) × (get_or (frames_of u k.inv) k.depth f ≡ f))
          ⊎ ((length (frames_of u k.inv) ≤ k.depth) × (slice_get (frames_of u k.inv) k.depth ≡ None)) → IsAlike t k s u
      by_cases came went (inl found) = at_top found.0 found.2 came (cases_lt (k.depth + 1) (length (frames_of u k.inv)))
      by_cases came went (inr past) = none_alike past.1 went

-- the calls of another invocation
pub others_alike : (t : Tables) (k : WatchKey) (x : Touch) (i : ℕ) (s u : State) → IsTouch x i s u → k.inv ≢ i → IsAlike t k s u
others_alike t k x i s u did other m = ap (watched_in t k m) (did.others k.inv other)

-- nothing was stored, no event was passed, and no frame came or went
pub nothing_done : (t : Tables) (x : Touch) (i : ℕ) (s u : State) → IsTouch x i s u → x.stores ≡ false → x.events ≡ 0 → x.frames ≡ Same → AreSame t s u
nothing_done t x i s u did stores events frames =
    record { memory = did.memory stores frames; calls = λ k. by_inv k (cases_eq k.inv i) }
  where
    by_inv : (k : WatchKey) → (k.inv ≡ i) ⊎ (k.inv ≡ i → ⊥) → IsAlike t k s u
    by_inv k (inl same) = own_alike t k x s u (subst (λ n. IsTouch x n s u) (sym same) did) frames events
    by_inv k (inr other) = others_alike t k x i s u did other

-- ---- the event before a position

some_image : {A B : Type 0} (f : A → B) (o : Option A) (a : A) → o ≡ Some a → (b : B) × (option_map f o ≡ Some b)
some_image f o a e = (f a, ap (option_map f) e)

-- an entry of the schedule makes one
event_there : (p : Program) (es : List ℕ) (n i : ℕ) → 0 < n → slice_get es (n - 1) ≡ Some i → (h : Happening) × (happening_before p es n ≡ Some h)
event_there p es zero i l e = absurd (omega (arith, l))
event_there p es (suc m) i l e =
    let back : suc m - 1 ≡ m = omega arith in
    some_image _ (slice_get es m) i (ap (slice_get es) (sym back) ∙ e)

-- what it did, if that is known, was done by the invocation of its entry
pub touch_is : (g : Group) (x : Touch) (i : ℕ) (s u : State) → 0 < g.position → slice_get (entries_in g) (g.position - 1) ≡ Some i
    → ((h : Happening) → happening_before g.program (entries_in g) g.position ≡ Some h → IsTouch x h.inv s u) → IsTouch x i s u
touch_is g x i s u some entry is =
    let there = event_there g.program (entries_in g) g.position i some entry in
    let own = events.entry_is g.program (entries_in g) (g.position - 1) there.0 (events.event_before g g.position there.0 there.1).event in
    let same : there.0.inv ≡ i = cc (own, entry) in
    subst (λ j. IsTouch x j s u) same (is there.0 there.1)
