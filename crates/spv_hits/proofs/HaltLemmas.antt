-- Where halts hit, as a kit shows it that counted the events before a position.
use Rattle.std.proofs.Common.{◌≡◌, ◌∙◌, length-append, ◌&&◌, ◌||◌, ◌==◌, ◌%◌, ◌+◌, ◌-◌, ◌<◌, ◌≤◌, ◌^◌, ◌++◌, ℕ, zero, suc, Bool, true, false, cond, List, [], ◌∷◌, length, map, get_or, Option, Some, None, refl, ap, ap₂, sym, subst, add-one, arith}
use Rattle.std.specs.Prelude.{IfSome, count_by, filter, option_map, if◌then◌else◌}
use Rattle.std.specs.Option.{option_map_or}
use Rattle.std.specs.List.{filter_map, range_with_len}
use Rattle.std.proofs.lemmas.List.{length-map, map-append}
use Rattle.std.proofs.lemmas.List.Elements.{All-head, All-tail, filter-append, filter_map-append}
use Rattle.std.proofs.lemmas.List.FromFn.{length-range_with_len}
use Rattle.std.proofs.lemmas.List.Sums.{sum_by-append}
use Rattle.std.proofs.lemmas.Slice.Zip.{AllZip-long}
use Rattle.spv_base.specs.Entries.{reads}
use Rattle.spv_base.specs.declared.happenings.Happening.{Happening}
use Rattle.spv_probe.specs.Kits.{Alike, AllAbove, AllBelow, Follows, HasCounted, place, tests_of}
use Rattle.spv_stops.specs.Halts.{Halts, is_halted}
use Rattle.spv_state.specs.Program.{Program}
use Rattle.spv_group.specs.Group.{Held as Group, entries_in, group_at}
use Rattle.spv_group.specs.Run.{happening_at, happenings_between}
use Rattle.spv_search.specs.Told.{IsEvent, Test}
use Rattle.spv_valid.specs.Acceptance.{Accepted}
use Rattle.spv_hits.specs.Breaks.{event_before}
use Rattle.spv_hits.specs.Halts.{halt_numbers, halts_at, halts_behind, is_hit, tally_of, told_before}
use Rattle.spv_hits.specs.Happenings.{lined}
use Rattle.spv_hits.specs.Hits.{has_some}
use Rattle.spv_group.proofs.Exports as events
use Rattle.spv_probe.proofs.Exports.{follows_above, follows_below, follows_own, follows_tests}
use Rattle.spv_hits.proofs.NumberLemmas.{filter_same, none_pass}

-- ---- the numbers that pass a test, up to one

some_joined : (b : Bool) (n : ℕ) (ns : List ℕ) → has_some (ns ++ cond b (n ∷ []) []) ≡ (has_some ns || b)
some_joined true n [] = refl
some_joined false n [] = refl
some_joined b n (m ∷ ns) = refl

turned : (n : ℕ) → 1 + n ≡ n + 1
turned n = omega arith

module _ (p : ℕ → Bool) where
  pub passed_more : (n : ℕ) → filter p (range_with_len 1 (n + 1)) ≡ filter p (range_with_len 1 n) ++ cond (p (n + 1)) ((n + 1) ∷ []) []
  passed_more n =
      ap (λ m. filter p (range_with_len 1 m)) (add-one n)
      ∙ ap (filter p) (events.range_more 1 n)
      ∙ filter-append p (range_with_len 1 n) ((1 + n) ∷ [])
      ∙ ap (λ m. filter p (range_with_len 1 n) ++ filter p (m ∷ [])) (turned n)

  -- none so far, and the next doesn't pass
  pub none_more : (n : ℕ) → has_some (filter p (range_with_len 1 n)) ≡ false → p (n + 1) ≡ false → has_some (filter p (range_with_len 1 (n + 1))) ≡ false
  none_more n none next =
      ap has_some (passed_more n) ∙ some_joined (p (n + 1)) (n + 1) (filter p (range_with_len 1 n)) ∙ ap₂ (λ a b. a || b) none next

  some_on : (b : Bool) (n : ℕ) (ns : List ℕ) → has_some ns ≡ true → has_some (cond b (n ∷ ns) ns) ≡ true
  some_on true n ns e = refl
  some_on false n ns e = e

  some_in : (a n m : ℕ) → n < m → p (a + n) ≡ true → has_some (filter p (range_with_len a m)) ≡ true
  some_in a n zero l e = absurd (omega (arith, l))
  some_in a zero (suc m) l e =
      let here : a + 0 ≡ a = omega arith in
      ap (λ b. has_some (cond b (a ∷ filter p (range_with_len (a + 1) m)) (filter p (range_with_len (a + 1) m)))) (ap p (sym here) ∙ e)
  some_in a (suc n) (suc m) l e =
      let on : (a + 1) + n ≡ a + suc n = omega arith in
      some_on (p a) a (filter p (range_with_len (a + 1) m)) (some_in (a + 1) n m (omega (arith, l)) (ap p on ∙ e))

  -- one passes
  pub some_here : (n m : ℕ) → n < m → p (n + 1) ≡ true → has_some (filter p (range_with_len 1 m)) ≡ true
  some_here n m l e = some_in 1 n m l (ap p (turned n) ∙ e)

  -- the next one passes, and is added, or it doesn't
  pub passed_yes : (n : ℕ) (numbers more : List ℕ) → p (n + 1) ≡ true → numbers ≡ filter p (range_with_len 1 n) → more ≡ numbers ++ (n + 1) ∷ [] → more ≡ filter p (range_with_len 1 (n + 1))
  passed_yes n numbers more e so push =
      push ∙ ap (λ ns. ns ++ (n + 1) ∷ []) so ∙ sym (passed_more n ∙ ap (λ b. filter p (range_with_len 1 n) ++ cond b ((n + 1) ∷ []) []) e)

  pub passed_no : (n : ℕ) (numbers : List ℕ) → p (n + 1) ≡ false → numbers ≡ filter p (range_with_len 1 n) → numbers ≡ filter p (range_with_len 1 (n + 1))
  passed_no n numbers e so =
      so ∙ sym (passed_more n ∙ ap (λ b. filter p (range_with_len 1 n) ++ cond b ((n + 1) ∷ []) []) e ∙ nothing_more (filter p (range_with_len 1 n)))
    where
      nothing_more : (ns : List ℕ) → ns ++ [] ≡ ns
      nothing_more [] = refl
      nothing_more (m ∷ ns) = ap (λ ms. m ∷ ms) (nothing_more ns)

-- ---- a halt

module _ (halts : Halts) (tests : List (Option Test)) (events : List Happening) (more : ℕ) (h : Happening) (k : ℕ) where
  -- that of a probe that is there
  pub halt_of : (hits : Bool) (count : ℕ) → Some hits ≡ option_map (λ hit. hit h) (place tests k) → Some count ≡ option_map (λ hit. count_by hit events) (place tests k)
      → is_halted k hits (count + more) halts ≡ halts_at halts tests events more h k
  halt_of hits count = by_test (place tests k)
    where
      by_test : (test : Option Test) → Some hits ≡ option_map (λ hit. hit h) test → Some count ≡ option_map (λ hit. count_by hit events) test
          → is_halted k hits (count + more) halts ≡ is_halted k (is_hit test h) (tally_of test events + more) halts
      by_test None e c = absurd (cc)
      by_test (Some hit) e c =
          let same : hits ≡ hit h = cc in
          let counted : count ≡ count_by hit events = cc in
          ap₂ (λ b n. is_halted k b (n + more) halts) same counted

  -- where no probe is there, none hits
  pub no_halt : {X : Type 0} (f : Test → X) → None ≡ option_map f (place tests k) → false ≡ halts_at halts tests events more h k
  no_halt f = by_test (place tests k)
    where
      by_test : (test : Option Test) → None ≡ option_map f test → false ≡ is_halted k (is_hit test h) (tally_of test events + more) halts
      by_test None e = refl
      by_test (Some hit) e = absurd (cc)

-- without halts none hits
pub none_set : (halts : Halts) (tests : List (Option Test)) (events : List Happening) (more : ℕ) (h : Happening) → halts ≡ [] → halts_behind halts tests events more h ≡ []
none_set halts tests events more h none =
    ap (λ hs. halts_behind hs tests events more h) none
    ∙ none_pass (halts_at [] tests events more h) (range_with_len 1 (length tests)) (λ k. off (is_hit (place tests k) h))
  where
    off : (b : Bool) → (b && false) ≡ false
    off true = refl
    off false = refl

-- ---- a kit

module _ {P : Type 0} (tally : P → ℕ) (test : P → Happening → Bool) where
  -- it has a place for each test
  pub follows_long : (tests : List (Option Test)) (events : List Happening) (boxes : List (Option P)) → Follows tally test tests events boxes → length boxes ≡ length tests
  follows_long tests events boxes f = AllZip-long (Alike (HasCounted tally test events)) tests boxes f

  place_below : (boxes : List (Option P)) (i : ℕ) → AllBelow tally boxes → IfSome (get_or boxes i None) (λ p. tally p < 2 ^ 64 - 1)
  place_below [] i below = tt
  place_below (x ∷ xs) zero below = All-head (λ x. IfSome x (λ p. tally p < 2 ^ 64 - 1)) x xs below
  place_below (x ∷ xs) (suc i) below = place_below xs i (All-tail (λ x. IfSome x (λ p. tally p < 2 ^ 64 - 1)) x xs below)

  some_below : (x : Option P) (n : ℕ) → IfSome x (λ p. tally p < 2 ^ 64 - 1) → Some n ≡ option_map tally x → n < 2 ^ 64 - 1
  some_below None n below e = absurd (cc)
  some_below (Some p) n below e = let same : tally p ≡ n = cc in subst (λ m. m < 2 ^ 64 - 1) same below

  -- one event more may be counted
  pub count_below : (boxes : List (Option P)) (k n : ℕ) → AllBelow tally boxes → Some n ≡ option_map tally (place boxes k) → n < 2 ^ 64 - 1
  count_below boxes k n below = by_zero (k == 0)
    where
      by_zero : (none : Bool) → Some n ≡ option_map tally (if none then None else get_or boxes (k - 1) None) → n < 2 ^ 64 - 1
      by_zero true e = absurd (cc)
      by_zero false e = some_below (get_or boxes (k - 1) None) n (place_below boxes (k - 1) below) e

-- ---- the events before a position

one_at_most : {X Y : Type 0} (f : X → Option Y) (x : X) (o : Option Y) → f x ≡ o → length (filter_map f (x ∷ [])) ≤ 1
one_at_most f x None e = let none : filter_map f (x ∷ []) ≡ [] = grind arith in omega (arith, ap length none)
one_at_most f x (Some y) e = let one : filter_map f (x ∷ []) ≡ y ∷ [] = grind arith in omega (arith, ap length one)

no_more : {X Y : Type 0} (f : X → Option Y) (xs : List X) → length (filter_map f xs) ≤ length xs
no_more f [] = omega arith
no_more f (x ∷ xs) =
    let first = one_at_most f x (f x) refl in
    let rest = no_more f xs in
    let both = ap length (filter_map-append f (x ∷ []) xs) ∙ length-append (filter_map f (x ∷ [])) (filter_map f xs) in
    omega arith

between_few : (p : Program) (entries : List ℕ) (n : ℕ) → length (happenings_between p entries 0 n) ≤ n
unfolding happenings_between
between_few p entries n =
    let few = no_more (happening_at p entries) (range_with_len 0 (n - 0)) in
    let long = length-range_with_len 0 (n - 0) in
    omega arith

-- no more than the position
pub told_few : (g : Group) → length (told_before g) ≤ g.position
told_few g =
    let few = between_few g.program (entries_in g) g.position in
    let same = length-map (happenings_between g.program (entries_in g) 0 g.position) (lined g.program.accepted) in
    omega arith

-- one more
pub told_more : (g : Group) (h : Happening) → happening_at g.program (entries_in g) g.position ≡ Some h → told_before (group_at (g.position + 1) g) ≡ told_before g ++ lined g.program.accepted h ∷ []
told_more g h e =
    ap (map (lined g.program.accepted)) (events.between_more g.program (entries_in g) 0 g.position h (omega arith) e)
    ∙ map-append (lined g.program.accepted) (happenings_between g.program (entries_in g) 0 g.position) (h ∷ [])

-- ---- the numbers of those that hit

-- behind the event before the position
pub numbers_here : (halts : Halts) (tests : List (Option Test)) (g : Group) (h : Happening) → event_before g ≡ Some h
    → halt_numbers halts tests g ≡ halts_behind halts tests (told_before g) 0 (lined g.program.accepted h)
numbers_here halts tests g h e =
    ap (λ (o : Option Happening). option_map_or (λ h. halts_behind halts tests (told_before g) 0 (lined g.program.accepted h)) o []) e

counted_more : (hit : Test) (events : List Happening) (h : Happening) → count_by hit (events ++ h ∷ []) ≡ count_by hit events + cond (hit h) 1 0
counted_more hit events h = let e = sum_by-append (λ (x : Happening). cond (hit x) 1 0) events (h ∷ []) in omega (arith, e)

-- an event that hits is counted once
same_multiple : (b : Bool) (every : Option ℕ) (m n : ℕ) → m ≡ n + cond b 1 0 → (b && option_map_or (λ e. (m + 0) % e == 0) every false) ≡ (b && option_map_or (λ e. (n + 1) % e == 0) every false)
same_multiple true every m n e = let same : m + 0 ≡ n + 1 = omega arith in ap (λ t. option_map_or (λ e. t % e == 0) every false) same
same_multiple false every m n e = refl

same_halt : (halts : Halts) (test : Option Test) (events : List Happening) (h : Happening) (k : ℕ)
    → is_halted k (is_hit test h) (tally_of test (events ++ h ∷ []) + 0) halts ≡ is_halted k (is_hit test h) (tally_of test events + 1) halts
same_halt halts None events h k = refl
same_halt halts (Some hit) events h k = same_multiple (hit h) (reads k halts) (count_by hit (events ++ h ∷ [])) (count_by hit events) (counted_more hit events h)

-- behind the event at the position
pub numbers_behind : (halts : Halts) (tests : List (Option Test)) (g : Group) (h : Happening) → happening_at g.program (entries_in g) g.position ≡ Some h
    → halt_numbers halts tests (group_at (g.position + 1) g) ≡ halts_behind halts tests (told_before g) 1 (lined g.program.accepted h)
numbers_behind halts tests g h e =
    let told = lined g.program.accepted h in
    numbers_here halts tests (group_at (g.position + 1) g) h (events.event_behind g g.position h e)
    ∙ ap (λ before. halts_behind halts tests before 0 told) (told_more g h e)
    ∙ filter_same (halts_at halts tests (told_before g ++ told ∷ []) 0 told) (halts_at halts tests (told_before g) 1 told) (range_with_len 1 (length tests)) (λ k. same_halt halts (place tests k) (told_before g) told k)

-- a halt hits behind the event at the position, or none does
pub hit_behind : (halts : Halts) (tests : List (Option Test)) (g : Group) (h : Happening) (a : Accepted) (hit : Bool) → a ≡ g.program.accepted → happening_at g.program (entries_in g) g.position ≡ Some h
    → hit ≡ has_some (halts_behind halts tests (told_before g) 1 (lined a h)) → hit ≡ has_some (halt_numbers halts tests (group_at (g.position + 1) g))
hit_behind halts tests g h a hit same e is =
    is ∙ ap (λ b. has_some (halts_behind halts tests (told_before g) 1 (lined b h))) same ∙ ap has_some (sym (numbers_behind halts tests g h e))

-- ---- a kit that is told of the event at a position

module _ {P : Type 0} (tally : P → ℕ) (test : P → Happening → Bool) (g : Group) where
  pub told_below : (boxes : List (Option P)) → g.position ≤ 4194304 → Follows tally test (tests_of test boxes) (told_before g) boxes → AllBelow tally boxes
  told_below boxes most was =
      let few = told_few g in
      follows_below tally test (tests_of test boxes) (told_before g) boxes (omega arith) was

  module _ (a : Accepted) (h told : Happening) (old new : List (Option P)) (event : IsEvent a h g) (is : told ≡ lined a h) where
    one_told : told_before g ++ told ∷ [] ≡ told_before (group_at (g.position + 1) g)
    one_told = ap (λ x. told_before g ++ x ∷ []) (is ∙ ap (λ b. lined b h) event.accepted) ∙ sym (told_more g h event.event)

    -- which was made
    module _ (goes : (tests : List (Option Test)) (events : List Happening) → Follows tally test tests events old → Follows tally test tests (events ++ told ∷ []) new)
        (was : Follows tally test (tests_of test old) (told_before g) old) where
      pub forth_tests : tests_of test new ≡ tests_of test old
      forth_tests = follows_tests tally test (tests_of test old) (told_before g ++ told ∷ []) new (goes (tests_of test old) (told_before g) was)

      pub forth_follows : Follows tally test (tests_of test new) (told_before (group_at (g.position + 1) g)) new
      forth_follows =
          follows_own tally test (tests_of test old) (told_before (group_at (g.position + 1) g)) new
          (subst (λ events. Follows tally test (tests_of test old) events new) one_told (goes (tests_of test old) (told_before g) was))

    -- which was taken back
    module _ (was : Follows tally test (tests_of test old) (told_before (group_at (g.position + 1) g)) old) where
      had_told : Follows tally test (tests_of test old) (told_before g ++ told ∷ []) old
      had_told = subst (λ events. Follows tally test (tests_of test old) events old) (sym one_told) was

      pub back_above : AllAbove tally test told old
      back_above = follows_above tally test told (tests_of test old) (told_before g) old had_told

      module _ (goes : (tests : List (Option Test)) (events : List Happening) → Follows tally test tests (events ++ told ∷ []) old → Follows tally test tests events new) where
        pub back_tests : tests_of test new ≡ tests_of test old
        back_tests = follows_tests tally test (tests_of test old) (told_before g) new (goes (tests_of test old) (told_before g) had_told)

        pub back_follows : Follows tally test (tests_of test new) (told_before g) new
        back_follows = follows_own tally test (tests_of test old) (told_before g) new (goes (tests_of test old) (told_before g) had_told)
