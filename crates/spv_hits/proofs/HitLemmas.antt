-- Where breaks and watches hit, by the event before a position.
use Rattle.std.proofs.Common.{◌≡◌, ◌∙◌, ◌||◌, inl, inr, ℕ, ◌+◌, ◌-◌, ◌&&◌, not, Bool, true, false, cond, List, [], map, Option, Some, None, Result, Ok, Err, refl, ap, sym, subst, arith}
use Rattle.std.specs.Prelude.{IfOk, OnOk, filter, nat_lt, option_map, slice_get, slice_index_or}
use Rattle.std.specs.Option.{option_map_or}
use Rattle.std.proofs.lemmas.Bool.Decides.{nat_tests}
use Rattle.std.specs.List.{list_any}
use Rattle.spv_base.specs.declared.happenings.Happening.{Happening}
use Rattle.spv_dbg.specs.declared.frames.Bit.{Bit}
use Rattle.spv_dbg.specs.Tables.{Tables}
use Rattle.spv_stops.specs.Breaks.{has_head, hits_at}
use Rattle.spv_stops.specs.Stops.{Stops, number_of}
use Rattle.spv_stops.specs.Watches.{WatchKey}
use Rattle.spv_stops.specs.declared.breaks.Breakpoint.{Breakpoint}
use Rattle.spv_group.specs.Group.{Held as Group, entries_in, group_at, state_in}
use Rattle.spv_group.specs.Run.{happening_at, is_idle}
use Rattle.spv_frame.specs.Frames.{Held as Frame}
use Rattle.spv_state.specs.State.{State, frames_of, top_of}
use Rattle.spv_search.specs.Moves.{lands}
use Rattle.spv_hits.specs.Breaks.{break_numbers, breaks_hit, breaks_under, event_before}
use Rattle.spv_hits.specs.Hits.{has_some, hits}
use Rattle.spv_hits.specs.Kept.{AreAlike, AreHeads, AreSame, IsNoted, IsPlaced, IsSame, LiesAt, Stopping, at_break, differs, watched_by}
use Rattle.spv_hits.specs.Watches.{has_changed, same_bits, watch_numbers, watched, watched_in}
use Rattle.spv_group.proofs.Exports as events
use Rattle.spv_hits.specs.declared.places.Place.{Place}
use Rattle.spv_hits.specs.declared.same.Same.{Same}
use Rattle.spv_hits.proofs.NumberLemmas.{filter_same, images_all, images_same, none_any, none_at, none_pass, some_number}
use Rattle.spv_hits.proofs.PlaceLemmas.{lies_still, same_by_memory}
use Rattle.spv_hits.proofs.SameLemmas.{bits_equal, bits_itself, bits_turned}

-- the entry before a position is the invocation of the event before it
pub entry_before : (g : Group) (h : Happening) → event_before g ≡ Some h → slice_get (entries_in g) (g.position - 1) ≡ Some h.inv
entry_before g h e = events.entry_is g.program (entries_in g) (g.position - 1) h (events.event_before g g.position h e).event

-- ---- breaks

-- the numbers are those of the event
pub breaks_are : (breaks : Stops Breakpoint) (g : Group) (h : Happening) → event_before g ≡ Some h → break_numbers breaks g ≡ breaks_hit breaks g h
breaks_are breaks g h e = ap (λ (o : Option Happening). option_map_or (breaks_hit breaks g) o []) e

some_if : (b : Bool) (numbers : List ℕ) → has_some (cond b numbers []) ≡ (b && has_some numbers)
some_if true numbers = refl
some_if false numbers = refl

-- some hit exactly where it lands at one's head
pub breaks_some : (breaks : Stops Breakpoint) (g : Group) (h : Happening) → event_before g ≡ Some h → has_some (break_numbers breaks g) ≡ (lands h.inv h && has_some (breaks_under breaks g h.inv))
breaks_some breaks g h e = ap has_some (breaks_are breaks g h e) ∙ some_if (lands h.inv h) (breaks_under breaks g h.inv)

-- some have this head
pub heads_some : (pc : ℕ) (breaks : Stops Breakpoint) → has_some (hits_at pc breaks) ≡ list_any (has_head pc) breaks.0
heads_some pc breaks = some_number number_of (has_head pc) breaks.0

-- what is noted of a position is of the event before it
pub noted_break : (breaks : Stops Breakpoint) (g : Group) (n : ℕ) (h : Happening) → happening_at g.program (entries_in g) n ≡ Some h
    → at_break breaks (group_at (n + 1) g) ≡ has_some (breaks_under breaks (group_at (n + 1) g) h.inv)
noted_break breaks g n h e =
    let back : (n + 1) - 1 ≡ n = omega arith in
    ap (λ m. option_map_or (λ i. has_some (breaks_under breaks (group_at (n + 1) g) i)) (slice_get (entries_in g) m) false) back
    ∙ ap (λ (o : Option ℕ). option_map_or (λ i. has_some (breaks_under breaks (group_at (n + 1) g) i)) o false) (events.entry_is g.program (entries_in g) n h e)

-- where it lands, what was noted says whether one hits
pub break_behind : (breaks : Stops Breakpoint) (g : Group) (h : Happening) (lands_is landed : Bool) → happening_at g.program (entries_in g) g.position ≡ Some h → lands_is ≡ lands h.inv h
    → landed ≡ at_break breaks (group_at (g.position + 1) g) → (lands_is && landed) ≡ has_some (break_numbers breaks (group_at (g.position + 1) g))
break_behind breaks g h lands_is landed e same is =
    ap (λ b. b && landed) same
    ∙ ap (λ b. lands h.inv h && b) (is ∙ noted_break breaks g g.position h e)
    ∙ sym (breaks_some breaks (group_at (g.position + 1) g) h (events.event_behind g g.position h e))

under_is : (breaks : Stops Breakpoint) (o : Option Frame) (pc : ℕ) → option_map (λ (f : Frame). f.pc) o ≡ Some pc → option_map_or (λ (f : Frame). hits_at f.pc breaks) o [] ≡ hits_at pc breaks
under_is breaks None pc e = absurd (cc)
under_is breaks (Some f) pc e = let same : f.pc ≡ pc = cc in ap (λ x. hits_at x breaks) same

-- a mark says whether breaks have a head where an invocation stands
pub head_marked : (kept breaks : Stops Breakpoint) (items marks : List Bool) (g : Group) (i pc : ℕ) (marked : Bool) → kept ≡ breaks → AreHeads kept.0 items → marks ≡ items
    → option_map (λ (f : Frame). f.pc) (top_of (state_in g) i) ≡ Some pc → marked ≡ slice_index_or marks pc false → marked ≡ has_some (breaks_under breaks g i)
head_marked kept breaks items marks g i pc marked same heads lie stands is =
    is ∙ ap (λ ms. slice_index_or ms pc false) lie ∙ heads pc ∙ ap (λ (k : Stops Breakpoint). list_any (has_head pc) k.0) same
    ∙ sym (heads_some pc breaks) ∙ ap has_some (sym (under_is breaks (top_of (state_in g) i) pc stands))

module _ (breaks : Stops Breakpoint) (heads : AreHeads breaks.0 []) where
  -- where no word is marked, no break has a head
  pub no_head : (g : Group) (i : ℕ) → has_some (breaks_under breaks g i) ≡ false
  no_head g i = under (top_of (state_in g) i)
    where
      under : (o : Option Frame) → has_some (option_map_or (λ (f : Frame). hits_at f.pc breaks) o []) ≡ false
      under None = refl
      under (Some f) = heads_some f.pc breaks ∙ sym (heads f.pc)

-- and none stands at one
pub not_at_break : (breaks : Stops Breakpoint) (g : Group) → ((g : Group) (i : ℕ) → has_some (breaks_under breaks g i) ≡ false) → at_break breaks g ≡ false
not_at_break breaks g none = by_entry (slice_get (entries_in g) (g.position - 1))
  where
    by_entry : (o : Option ℕ) → option_map_or (λ i. has_some (breaks_under breaks g i)) o false ≡ false
    by_entry None = refl
    by_entry (Some i) = none g i

-- ---- watches

-- behind an event the numbers are those of the watches that have changed
pub watches_are : (t : Tables) (watches : Stops WatchKey) (g : Group) (h : Happening) → event_before g ≡ Some h → watch_numbers t watches g ≡ map number_of (filter (has_changed t g) watches.0)
watches_are t watches g h e =
    let behind = events.event_before g g.position h e in
    let some : nat_lt 0 g.position ≡ true = above g.position behind.position in
    ap (λ b. cond b (map number_of (filter (has_changed t g) watches.0)) []) some
  where
    above : (n : ℕ) → (n - 1) + 1 ≡ n → nat_lt 0 n ≡ true
    above n e = grind (arith, nat_tests)

module _ (t : Tables) (watches : Stops WatchKey) (g : Group) where
  -- the bits of a watch in two states that are one
  same_state : (k : WatchKey) (s u : State) → s ≡ u → not (same_bits (watched_in t k s.memory (frames_of s k.inv)) (watched_in t k u.memory (frames_of u k.inv))) ≡ false
  same_state k s u e =
      subst (λ (x : State). not (same_bits (watched_in t k s.memory (frames_of s k.inv)) (watched_in t k x.memory (frames_of x k.inv))) ≡ false) e
      (ap not (bits_itself (watched_in t k s.memory (frames_of s k.inv))))

  none_by_test : (b : Bool) (ns : List ℕ) → ns ≡ [] → cond b ns [] ≡ []
  none_by_test true ns e = e
  none_by_test false ns e = refl

  -- where nothing is watched, nothing has changed
  pub unwatched_here : watches.0 ≡ [] → watch_numbers t watches g ≡ []
  unwatched_here none =
      none_by_test (nat_lt 0 g.position) (map number_of (filter (has_changed t g) watches.0)) (ap (λ ws. map number_of (filter (has_changed t g) ws)) none)

  nothing_hit : ((w : ℕ × WatchKey) → has_changed t g w ≡ false) → watch_numbers t watches g ≡ []
  nothing_hit none = none_by_test (nat_lt 0 g.position) (map number_of (filter (has_changed t g) watches.0)) (ap (map number_of) (none_pass (has_changed t g) watches.0 none))

  -- behind an idle event nothing has changed
  pub idle_here : (h : Happening) → event_before g ≡ Some h → is_idle h.kind ≡ true → watch_numbers t watches g ≡ []
  idle_here h e idle =
      let behind = events.event_before g g.position h e in
      let still : state_in (group_at g.position g) ≡ state_in (group_at (g.position - 1) g) =
      subst (λ n. state_in (group_at n g) ≡ state_in (group_at (g.position - 1) g)) behind.position (events.idle_still g (g.position - 1) h behind.event idle) in
      nothing_hit (λ w. same_state w.1 (state_in (group_at (g.position - 1) g)) (state_in g) (sym still))

-- the same, at the position behind the group's
pub idle_behind : (t : Tables) (watches : Stops WatchKey) (g : Group) (n : ℕ) (h : Happening) → happening_at g.program (entries_in g) n ≡ Some h → is_idle h.kind ≡ true
    → watch_numbers t watches (group_at (n + 1) g) ≡ []
idle_behind t watches g n h e idle = idle_here t watches (group_at (n + 1) g) h (events.event_behind g n h e) idle

-- the numbers by what was noted behind the event
pub watches_behind : (t : Tables) (watches : Stops WatchKey) (g : Group) (h : Happening) → happening_at g.program (entries_in g) g.position ≡ Some h
    → map number_of (filter (λ (w : ℕ × WatchKey). not (same_bits (watched t w.1 (group_at (g.position + 1) g)) (watched t w.1 g))) watches.0)
    ≡ watch_numbers t watches (group_at (g.position + 1) g)
watches_behind t watches g h e =
    let later = group_at (g.position + 1) g in
    let back : g.position ≡ (g.position + 1) - 1 = omega arith in
    ap (map number_of) (filter_same _ (has_changed t later) watches.0 (λ w. ap not (bits_turned (watched t w.1 later) (watched t w.1 (group_at g.position g)))
    ∙ ap (λ n. not (same_bits (watched t w.1 (group_at n g)) (watched t w.1 later))) back))
    ∙ sym (watches_are t watches later h (events.event_behind g g.position h e))

-- ---- as the type has them

pub if_ok : {A E : Type 0} (r : Result A E) (P Q : A → Type 0) → ((x : A) → P x → Q x) → IfOk r P → IfOk r Q
if_ok (Ok x) P Q f p = f x p
if_ok (Err e) P Q f p = p

module _ (s : Stopping) (g : Group) (h : Happening) (t : Tables) (watches : List (ℕ × WatchKey)) (noted : List (Option (List Bit))) (numbers : List ℕ)
    (tables_are : t ≡ s.tables) (watches_same : watches ≡ s.watches.0) (bits_same : noted ≡ s.bits)
    (is : (o : Group) → noted ≡ watched_by t watches o → numbers ≡ map number_of (filter (λ (w : ℕ × WatchKey). not (same_bits (watched t w.1 o) (watched t w.1 g))) watches)) where
  -- the numbers by what was noted of another position
  by_noted : (o : Group) → s.bits ≡ watched_by s.tables s.watches.0 o
      → numbers ≡ map number_of (filter (λ (w : ℕ × WatchKey). not (same_bits (watched s.tables w.1 o) (watched s.tables w.1 g))) s.watches.0)
  by_noted o e =
      is o (bits_same ∙ e ∙ ap (λ x. watched_by x s.watches.0 o) (sym tables_are) ∙ ap (λ x. watched_by t x o) (sym watches_same))
      ∙ ap (λ x. map number_of (filter (λ (w : ℕ × WatchKey). not (same_bits (watched x w.1 o) (watched x w.1 g))) watches)) tables_are
      ∙ ap (λ x. map number_of (filter (λ (w : ℕ × WatchKey). not (same_bits (watched s.tables w.1 o) (watched s.tables w.1 g))) x)) watches_same

  pub numbers_here : event_before g ≡ Some h → IsNoted s (group_at (g.position - 1) g) → numbers ≡ watch_numbers s.tables s.watches g
  numbers_here e was = by_noted (group_at (g.position - 1) g) was.bits ∙ sym (watches_are s.tables s.watches g h e)

-- ---- two positions that stand next to each other

-- none does, so watches alone
pub hit_by_watch : (t : Tables) (breaks : Stops Breakpoint) (watches : Stops WatchKey) (g : Group) (hit : Bool) → has_some (break_numbers breaks g) ≡ false → hit ≡ has_some (watch_numbers t watches g)
    → hit ≡ hits t breaks watches g
hit_by_watch t breaks watches g hit none is = is ∙ sym (ap (λ b. b || has_some (watch_numbers t watches g)) none)

-- watches hit at a position where bits differ from those before
pub changed_here : (t : Tables) (watches : Stops WatchKey) (g : Group) (h : Happening) → event_before g ≡ Some h
    → has_some (watch_numbers t watches g) ≡ list_any (differs t (group_at (g.position - 1) g) g) watches.0
changed_here t watches g h e = ap has_some (watches_are t watches g h e) ∙ some_number number_of (has_changed t g) watches.0

-- and behind it, where they differ from those behind
pub changed_behind : (t : Tables) (watches : Stops WatchKey) (g : Group) (h : Happening) → happening_at g.program (entries_in g) g.position ≡ Some h
    → has_some (watch_numbers t watches (group_at (g.position + 1) g)) ≡ list_any (differs t (group_at (g.position + 1) g) g) watches.0
changed_behind t watches g h e = ap has_some (sym (watches_behind t watches g h e)) ∙ some_number number_of (differs t (group_at (g.position + 1) g) g) watches.0

same_where_equal : (t : Tables) (s u : State) → s ≡ u → AreSame t s u
same_where_equal t s u e = subst (λ (x : State). AreSame t s x) e (record { memory = refl; calls = λ k m. refl })

-- all is the same behind an idle event
pub same_here : (t : Tables) (g : Group) (h : Happening) → event_before g ≡ Some h → is_idle h.kind ≡ true → AreSame t (state_in (group_at (g.position - 1) g)) (state_in g)
same_here t g h e idle =
    let behind = events.event_before g g.position h e in
    same_where_equal t (state_in (group_at (g.position - 1) g)) (state_in g)
    (sym (subst (λ n. state_in (group_at n g) ≡ state_in (group_at (g.position - 1) g)) behind.position (events.idle_still g (g.position - 1) h behind.event idle)))

pub same_behind : (t : Tables) (g : Group) (h : Happening) → happening_at g.program (entries_in g) g.position ≡ Some h → is_idle h.kind ≡ true → AreSame t (state_in (group_at (g.position + 1) g)) (state_in g)
same_behind t g h e idle = same_where_equal t (state_in (group_at (g.position + 1) g)) (state_in g) (events.idle_still g g.position h e idle)

-- what an event did, seen from behind it
pub same_turned : (t : Tables) (watches : List (ℕ × WatchKey)) (same : Same) (s u : State) → IsSame t watches same s u → IsSame t watches same u s
same_turned t watches same s u is = record {
  all = λ e. let all = is.all e in record { memory = sym all.memory; calls = λ k m. sym (all.calls k m) };
  memory = λ e. sym (is.memory e);
  calls = λ e n w at marked m. sym (is.calls e n w at marked m);
}

-- ---- what is noted of one of them

-- where nothing is watched, what is noted of any position is noted of each
pub noted_unwatched : (s : Stopping) (o g : Group) → s.watches.0 ≡ [] → IsNoted s o → IsNoted s g
noted_unwatched s o g none noted = record {
  bits = noted.bits ∙ ap (λ ws. watched_by s.tables ws o) none ∙ sym (ap (λ ws. watched_by s.tables ws g) none);
  places = λ n w place at there. absurd (cc (sym (ap (λ ws. slice_get ws n) none) ∙ at));
}

module _ (s : Stopping) (o g : Group) (noted : IsNoted s o) where
  -- nothing differs, and the other one is noted too
  module _ (same : AreSame s.tables (state_in o) (state_in g)) where
    seen_same : (k : WatchKey) → watched s.tables k o ≡ watched s.tables k g
    seen_same k = same_by_memory s.tables k (state_in o) (state_in g) (same.calls k) same.memory

    pub none_differs : list_any (differs s.tables o g) s.watches.0 ≡ false
    none_differs = none_any (differs s.tables o g) s.watches.0
        (λ w. ap not (ap (same_bits (watched s.tables w.1 o)) (sym (seen_same w.1)) ∙ bits_itself (watched s.tables w.1 o)))

    pub noted_same : IsNoted s g
    noted_same = record {
      bits = noted.bits ∙ images_all _ _ s.watches.0 (λ w. seen_same w.1);
      places = λ n w place at there. lies_still s.tables w.1 (state_in o) (state_in g) (same.calls w.1) place (seen_same w.1) (noted.places n w place at there);
    }

  -- nothing was found to differ, and where the bits lie was found anew unless the calls tell the same
  pub noted_on : (places : List Place) (marks : List Bool) → AreAlike s.tables s.watches.0 marks (state_in o) (state_in g) → list_any (differs s.tables o g) s.watches.0 ≡ false
      → ((n : ℕ) (w : ℕ × WatchKey) (place : Place) → slice_get s.watches.0 n ≡ Some w → slice_get places n ≡ Some place → IsPlaced s.tables w.1 place g (slice_get marks n) (slice_get s.places n))
      → IsNoted (record s { places = places }) g
  noted_on places marks alike none placed =
      let same : (w : ℕ × WatchKey) → differs s.tables o g w ≡ false → watched s.tables w.1 o ≡ watched s.tables w.1 g = λ w e. bits_equal (watched s.tables w.1 o) (watched s.tables w.1 g) e in
      record {
        bits = noted.bits ∙ images_same (differs s.tables o g) _ _ s.watches.0 same none;
        places = λ n w place at there. lies n w place at (same w (none_at (differs s.tables o g) s.watches.0 n w none at)) (placed n w place at there);
      }
    where
      lies : (n : ℕ) (w : ℕ × WatchKey) (place : Place) → slice_get s.watches.0 n ≡ Some w → watched s.tables w.1 o ≡ watched s.tables w.1 g
          → IsPlaced s.tables w.1 place g (slice_get marks n) (slice_get s.places n) → LiesAt s.tables w.1 place g
      lies n w place at same (inl here) = here
      lies n w place at same (inr left) = lies_still s.tables w.1 (state_in o) (state_in g) (alike n w at left.0) place same (noted.places n w place at left.1)

-- ---- what is told of a position, by what is found between two

-- what was noted doesn't change with what an event did
pub noted_with : (s : Stopping) (x : Same) (o : Group) → IsNoted s o → IsNoted (record s { same = x }) o
noted_with s x o noted = record { bits = noted.bits; places = noted.places }

module _ (s : Stopping) (x : Same) (g : Group) (h : Happening) (hit : Bool) (found : (o : Group) → IsNoted (record s { same = x }) o → IsSame s.tables s.watches.0 x (state_in o) (state_in g) → hit ≡ list_any (differs s.tables o g) s.watches.0) where
  -- behind an event, of the position before which much is known
  pub hits_by_before : event_before g ≡ Some h → has_some (break_numbers s.breaks g) ≡ false → IsNoted s (group_at (g.position - 1) g)
      → IsSame s.tables s.watches.0 x (state_in (group_at (g.position - 1) g)) (state_in g) → hit ≡ hits s.tables s.breaks s.watches g
  hits_by_before e none noted same =
      hit_by_watch s.tables s.breaks s.watches g hit none
      (found (group_at (g.position - 1) g) (noted_with s x (group_at (g.position - 1) g) noted) same ∙ sym (changed_here s.tables s.watches g h e))

  -- and before one
  pub hits_by_behind : happening_at g.program (entries_in g) g.position ≡ Some h → has_some (break_numbers s.breaks (group_at (g.position + 1) g)) ≡ false → IsNoted s (group_at (g.position + 1) g)
      → IsSame s.tables s.watches.0 x (state_in (group_at (g.position + 1) g)) (state_in g) → hit ≡ hits s.tables s.breaks s.watches (group_at (g.position + 1) g)
  hits_by_behind e none noted same =
      hit_by_watch s.tables s.breaks s.watches (group_at (g.position + 1) g) hit none
      (found (group_at (g.position + 1) g) (noted_with s x (group_at (g.position + 1) g) noted) same ∙ sym (changed_behind s.tables s.watches g h e))

-- what the event behind a position did, from the position behind it on
pub same_left : (t : Tables) (watches : List (ℕ × WatchKey)) (same : Same) (g : Group)
    → IsSame t watches same (state_in (group_at ((g.position + 1) - 1) g)) (state_in (group_at (g.position + 1) g)) → IsSame t watches same (state_in (group_at (g.position + 1) g)) (state_in g)
same_left t watches same g is =
    let back : (g.position + 1) - 1 ≡ g.position = omega arith in
    same_turned t watches same (state_in (group_at g.position g)) (state_in (group_at (g.position + 1) g)) (subst (λ n. IsSame t watches same (state_in (group_at n g)) (state_in (group_at (g.position + 1) g))) back is)

-- ---- a position that is noted anew

pub on_ok : {A E : Type 0} (r : Result A E) (P Q : Type 0) → (P → Q) → OnOk r P → OnOk r Q
on_ok (Ok x) P Q f p = f p
on_ok (Err e) P Q f p = p

-- the same as `noted_on`, by lists that are those of what is kept
pub noted_anew : (v s : Stopping) (o g : Group) (watches : List (ℕ × WatchKey)) (marks : List Bool) (old places : List Place) → v ≡ s → watches ≡ v.watches.0 → marks ≡ v.same.calls.items → old ≡ v.places
    → ((n : ℕ) (w : ℕ × WatchKey) (place : Place) → slice_get watches n ≡ Some w → slice_get places n ≡ Some place → IsPlaced v.tables w.1 place g (slice_get marks n) (slice_get old n))
    → IsNoted s o → AreAlike s.tables s.watches.0 s.same.calls.items (state_in o) (state_in g) → list_any (differs s.tables o g) s.watches.0 ≡ false → IsNoted (record v { places = places }) g
noted_anew v s o g watches marks old places is those marked were placed noted alike none =
    noted_on v o g (subst (λ (r : Stopping). IsNoted r o) (sym is) noted) places v.same.calls.items
    (subst (λ (r : Stopping). AreAlike r.tables r.watches.0 r.same.calls.items (state_in o) (state_in g)) (sym is) alike)
    (subst (λ (r : Stopping). list_any (differs r.tables o g) r.watches.0 ≡ false) (sym is) none)
    (λ n w place at there. subst (λ ps. IsPlaced v.tables w.1 place g (slice_get v.same.calls.items n) (slice_get ps n)) were
    (subst (λ xs. IsPlaced v.tables w.1 place g (slice_get xs n) (slice_get old n)) marked (placed n w place (subst (λ xs. slice_get xs n ≡ Some w) (sym those) at) there)))
