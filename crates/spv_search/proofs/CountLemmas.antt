-- How many events between two positions move an invocation, with one more before or behind them.
use Rattle.std.proofs.Common.{◌≡◌, ◌≤◌, ◌<◌, ◌∙◌, ◌+◌, ◌-◌, ◌++◌, ℕ, zero, suc, Bool, true, false, cond, List, [], ◌∷◌, length, Option, Some, None, refl, ap, arith}
use Rattle.std.specs.List.{filter, filter_map, range_with_len}
use Rattle.std.specs.Option.{option_map_or}
use Rattle.std.proofs.lemmas.List.Elements.{filter_map-append}
use Rattle.spv_base.specs.declared.happenings.Happening.{Happening}
use Rattle.spv_group.proofs.Exports.{range_more}
use Rattle.spv_group.specs.Group.{Held as Group, entries_in, group_at}
use Rattle.spv_group.specs.Run.{happening_at, happenings_between}
use Rattle.spv_search.specs.Moves.{moves, moves_between, moves_next}

abbrev pub one : Bool → ℕ
one b = cond b 1 0

pub at_most_one : (b : Bool) → one b ≤ 1
at_most_one true = omega arith
at_most_one false = omega arith

-- of a list of events
abbrev counted : ℕ → List Happening → ℕ
counted i hs = length (filter (moves i) hs)

counted_first : (i : ℕ) (h : Happening) (hs : List Happening) → counted i (h ∷ hs) ≡ one (moves i h) + counted i hs
counted_first i h hs = by_test (moves i h)
  where
    by_test : (b : Bool) → length (cond b (h ∷ filter (moves i) hs) (filter (moves i) hs)) ≡ one b + counted i hs
    by_test true = omega arith
    by_test false = omega arith

counted_both : (i : ℕ) (hs ks : List Happening) → counted i (hs ++ ks) ≡ counted i hs + counted i ks
counted_both i [] ks = omega arith
counted_both i (h ∷ hs) ks =
    let first = counted_first i h (hs ++ ks) in
    let again = counted_both i hs ks in
    let back = counted_first i h hs in
    omega arith

mapped_first : (f : ℕ → Option Happening) (k : ℕ) (ks : List ℕ) (h : Happening) → f k ≡ Some h → filter_map f (k ∷ ks) ≡ h ∷ filter_map f ks
mapped_first f k ks h e = grind arith

-- ---- of a run

module _ (g : Group) (i : ℕ) where
  abbrev pub events : ℕ → Option Happening
  events = happening_at g.program (entries_in g)

  pub none_between : (n : ℕ) → moves_between g i n n ≡ 0
  unfolding happenings_between
  none_between n = let no : n - n ≡ 0 = omega arith in ap (λ c. counted i (filter_map events (range_with_len n c))) no

  -- one more before them
  pub one_before : (k n : ℕ) (h : Happening) → k < n → happening_at g.program (entries_in g) k ≡ Some h → moves_between g i k n ≡ one (moves i h) + moves_between g i (k + 1) n
  unfolding happenings_between
  one_before k n h l is =
      let more : n - k ≡ suc (n - (k + 1)) = omega arith in
      ap (λ c. counted i (filter_map events (range_with_len k c))) more
      ∙ ap (counted i) (mapped_first events k (range_with_len (k + 1) (n - (k + 1))) h is)
      ∙ counted_first i h (filter_map events (range_with_len (k + 1) (n - (k + 1))))

  -- one more behind them
  pub one_behind : (k n : ℕ) (h : Happening) → k ≤ n → happening_at g.program (entries_in g) n ≡ Some h → moves_between g i k (n + 1) ≡ moves_between g i k n + one (moves i h)
  unfolding happenings_between
  one_behind k n h l is =
      let more : (n + 1) - k ≡ suc (n - k) = omega arith in
      let here : k + (n - k) ≡ n = omega arith in
      let last = counted_first i h [] in
      ap (λ c. counted i (filter_map events (range_with_len k c))) more
      ∙ ap (λ l. counted i (filter_map events l)) (range_more k (n - k))
      ∙ ap (counted i) (filter_map-append events (range_with_len k (n - k)) ((k + (n - k)) ∷ []))
      ∙ ap (λ m. counted i (filter_map events (range_with_len k (n - k)) ++ filter_map events (m ∷ []))) here
      ∙ ap (λ l. counted i (filter_map events (range_with_len k (n - k)) ++ l)) (mapped_first events n [] h is)
      ∙ counted_both i (filter_map events (range_with_len k (n - k))) (h ∷ [])
      ∙ ap (λ c. counted i (filter_map events (range_with_len k (n - k))) + c) (last ∙ omega arith)

  -- ---- between more positions

  abbrev pub at : ℕ → ℕ
  at k = one (moves_next (group_at k g) i)

  passed_over : (k : ℕ) (ks : List ℕ) → events k ≡ None → filter_map events (k ∷ ks) ≡ filter_map events ks
  passed_over k ks e = grind arith

  by_event : (k n : ℕ) → k < n → (o : Option Happening) → events k ≡ o → moves_between g i k n ≡ one (option_map_or (moves i) o false) + moves_between g i (k + 1) n
  unfolding happenings_between
  by_event k n l None e =
      let more : n - k ≡ suc (n - (k + 1)) = omega arith in
      let same : moves_between g i k n ≡ moves_between g i (k + 1) n
      = ap (λ c. counted i (filter_map events (range_with_len k c))) more ∙ ap (counted i) (passed_over k (range_with_len (k + 1) (n - (k + 1))) e) in
      omega (arith, same)
  by_event k n l (Some h) e = one_before k n h l e

  pub first_counts : (k n : ℕ) → k < n → moves_between g i k n ≡ at k + moves_between g i (k + 1) n
  first_counts k n l = by_event k n l (events k) refl

  pub split : (d a b c : ℕ) → b ≡ a + d → b ≤ c → moves_between g i a c ≡ moves_between g i a b + moves_between g i b c
  split zero a b c is l =
      let here : b ≡ a = omega arith in
      let none : moves_between g i a b ≡ 0 = ap (moves_between g i a) here ∙ none_between a in
      let same : moves_between g i b c ≡ moves_between g i a c = ap (λ k. moves_between g i k c) here in
      omega (arith, none, same)
  split (suc d) a b c is l =
      let whole = first_counts a c (omega arith) in
      let part = first_counts a b (omega arith) in
      let rest = split d (a + 1) b c (omega arith) l in
      omega (arith, whole, part, rest)

  -- an event that moves it counts
  pub counts : (m n : ℕ) → moves_next (group_at m g) i ≡ true → m < n → 1 ≤ moves_between g i m n
  counts m n moved l =
      let first = first_counts m n l in
      let one_is : at m ≡ 1 = ap one moved in
      omega (arith, first, one_is)
