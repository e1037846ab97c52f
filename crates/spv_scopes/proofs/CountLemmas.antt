-- How many calls there are from one outward, and how many frames are shown.
use Rattle.std.proofs.Common.{◌≡◌, ◌∙◌, ℕ, suc, zero, ◌+◌, ◌-◌, ◌<◌, ◌≤◌, ◌==◌, Bool, true, false, List, [], ◌∷◌, ◌++◌, drop, take, length, map, Option, Some, None, refl, sym, ap, subst, inl, inr, arith, cond}
use Rattle.std.specs.Prelude.{reverse, slice_get, slice_index, option_map, if◌then◌else◌}
use Rattle.std.specs.Option.{option_and_then, option_map_or}
use Rattle.std.proofs.lemmas.Bool.{cases_lt}
use Rattle.std.proofs.lemmas.List.{length-append, length-map, length-reverse, take_all}
use Rattle.spv_base.proofs.Exports.{drop_here, not_same}
use Rattle.spv_valid.specs.Acceptance.{Accepted}
use Rattle.spv_dbg.specs.Tables.{Tables}
use Rattle.spv_frame.specs.Frames.{Held as Frame}
use Rattle.spv_frame.specs.Stacks.{top}
use Rattle.spv_scopes.specs.declared.calls.Linked.{Linked}
use Rattle.spv_scopes.specs.declared.frames.Real.{Real}
use Rattle.spv_scopes.specs.Calls.{AreCounted, calls_behind, calls_from, count_in, rank, seen_at}
use Rattle.spv_scopes.specs.Shown.{count_at, first_frame, frame_at, frames_at, frames_from, line_named, line_shown, outer_frames, plain, real_of}
use Rattle.spv_scopes.specs.Spots.{Spot, Spots, source_line, spot_in}
use Rattle.spv_scopes.proofs.CallLemmas.{none_beyond, none_of_none}
use Rattle.spv_scopes.proofs.ListLemmas.{get_first, get_second}
use Rattle.spv_scopes.proofs.ShownLemmas.{below_more, innermost_is, innermost_none}

-- ---- lists of numbers

pub index_end : (counts : List ℕ) (c : ℕ) → slice_index (counts ++ c ∷ []) (length counts) ≡ c
index_end [] c = refl
index_end (d ∷ counts) c = index_end counts c

pub index_before : (counts : List ℕ) (c k : ℕ) → k < length counts → slice_index (counts ++ c ∷ []) k ≡ slice_index counts k
index_before [] c k l = absurd (omega arith)
index_before (d ∷ counts) c zero l = refl
index_before (d ∷ counts) c (suc k) l = index_before counts c k (omega arith)

index_beyond : (counts : List ℕ) (k : ℕ) → length counts ≤ k → slice_index counts k ≡ 0
index_beyond [] k l = refl
index_beyond (d ∷ counts) zero l = absurd (omega arith)
index_beyond (d ∷ counts) (suc k) l = index_beyond counts k (omega arith)

-- ---- calls

-- what is known of the calls before one, for the one around it
pub counted_below : (calls : List Linked) (counts : List ℕ) (n : ℕ) (call : Option ℕ) → ((k : ℕ) → k < n → slice_index counts k ≡ length (calls_from calls (Some k))) → rank call < suc n
    → count_in counts call ≡ length (calls_from calls call)
counted_below calls counts n None below l = sym (ap length (none_of_none calls))
counted_below calls counts n (Some k) below l = below k (omega arith)

pub counted_one : (calls : List Linked) (counts : List ℕ) (n count : ℕ) (k : Linked) → ((k : ℕ) → k < n → slice_index counts k ≡ length (calls_from calls (Some k))) → rank k.call < suc n
    → calls_from calls (Some n) ≡ calls_behind calls (Some k) → count ≡ count_in counts k.call + 1 → count ≡ length (calls_from calls (Some n))
counted_one calls counts n count k below l is more =
    let around : count_in counts k.call ≡ length (calls_from calls k.call) = counted_below calls counts n k.call below l in
    let whole : length (calls_from calls (Some n)) ≡ suc (length (calls_from calls k.call)) = ap length is in
    omega arith

-- one count more
pub counts_more : (calls : List Linked) (counts new : List ℕ) (n count : ℕ) → length counts ≡ n → ((k : ℕ) → k < n → slice_index counts k ≡ length (calls_from calls (Some k)))
    → count ≡ length (calls_from calls (Some n)) → new ≡ counts ++ count ∷ [] → (k : ℕ) → k < n + 1 → slice_index new k ≡ length (calls_from calls (Some k))
counts_more calls counts new n count few below is put k l = elim (cases_lt k n) [
  | inl before ↦ ap (λ l. slice_index l k) put ∙ index_before counts count k (omega arith) ∙ below k before
  | inr last ↦ (
      let here : n ≡ k = omega arith in
      let end : slice_index new n ≡ count = ap (λ l. slice_index l n) put ∙ ap (λ m. slice_index (counts ++ count ∷ []) m) (sym few) ∙ index_end counts count in
      subst (λ (j : ℕ). slice_index new j ≡ length (calls_from calls (Some j))) here (end ∙ is))
]

all_counted_at : (calls : List Linked) (counts : List ℕ) (n : ℕ) → length counts ≡ n → length calls ≡ n → ((k : ℕ) → k < n → slice_index counts k ≡ length (calls_from calls (Some k)))
    → (call : Option ℕ) → count_in counts call ≡ length (calls_from calls call)
all_counted_at calls counts n few as_many below None = sym (ap length (none_of_none calls))
all_counted_at calls counts n few as_many below (Some k) = elim (cases_lt k n) [
  | inl l ↦ below k l
  | inr l ↦ index_beyond counts k (omega arith) ∙ sym (ap length (none_beyond calls k (omega arith)))
]

pub all_counted : (calls : List Linked) (counts : List ℕ) (n : ℕ) → length counts ≡ n → length calls ≡ n → ((k : ℕ) → k < n → slice_index counts k ≡ length (calls_from (reverse calls) (Some k))) → AreCounted calls counts
all_counted calls counts n few as_many below = all_counted_at (reverse calls) counts n few (length-reverse calls ∙ as_many) below

-- ---- the frames of a call

module _ (spots : Spots) (word : ℕ) (calls : List Linked) (k : Linked) (is : seen_at calls k ≡ spot_in spots word) where
  abbrev count_of : Spot → ℕ
  count_of s = if s.place.function == 0 then 1 else length s.calls + 1

  pub count_alone : k.place.function ≡ 0 → 1 ≡ count_at spots word
  count_alone none = sym alone ∙ ap count_of is
    where
      alone : count_of (seen_at calls k) ≡ 1
      alone = let y : (k.place.function == 0) ≡ true = rw none refl in rw y refl

  pub count_inside : (count : ℕ) → (k.place.function ≡ 0 → ⊥) → count ≡ length (calls_from (reverse calls) k.call) → count + 1 ≡ count_at spots word
  count_inside count some counted = ap (λ n. n + 1) counted ∙ sym inside ∙ ap count_of is
    where
      inside : count_of (seen_at calls k) ≡ length (calls_from (reverse calls) k.call) + 1
      inside = rw (not_same k.place.function 0 some) refl

-- ---- the frames of a stack

pub count_is : (m : Accepted) (t : Tables) (spots : Spots) (r : Real) → length (frames_at m t spots r) ≡ count_at spots r.word
count_is m t spots r = by_function (spot_in spots r.word)
  where
    by_function : (s : Spot) → suc (length (outer_frames m t r s)) ≡ (if s.place.function == 0 then 1 else length s.calls + 1)
    by_function s = decide (s.place.function == 0)
      where
        decide : (b : Bool) → suc (length (cond b [] (map (frame_at m t r) s.calls))) ≡ cond b 1 (length s.calls + 1)
        decide true = refl
        decide false = let mapped : length (map (frame_at m t r) s.calls) ≡ length s.calls = length-map s.calls (frame_at m t r) in omega arith

pub counted_more : (m : Accepted) (t : Tables) (spots : Spots) (fs : List Frame) (d : ℕ) (f : Frame) (word count old new : ℕ) → slice_get fs d ≡ Some f → word ≡ f.pc → count ≡ count_at spots word
    → old ≡ length (frames_from m t spots (suc d) (drop (suc d) fs)) → new ≡ old + count → new ≡ length (frames_from m t spots d (drop d fs))
counted_more m t spots fs d f word count old new here word_is count_is_at before more =
    let one : count ≡ length (frames_at m t spots (real_of d f)) = count_is_at ∙ ap (count_at spots) word_is ∙ sym (count_is m t spots (real_of d f)) in
    let both = length-append (frames_from m t spots (suc d) (drop (suc d) fs)) (frames_at m t spots (real_of d f)) in
    let all = sym (ap (λ l. length (frames_from m t spots d l)) (drop_here fs d f here)) in
    more ∙ ap (λ n. n + count) before ∙ ap (λ n. length (frames_from m t spots (suc d) (drop (suc d) fs)) + n) one ∙ sym both ∙ all

-- ---- the frame of a stack with a number

pub numbered_below : (m : Accepted) (t : Tables) (spots : Spots) (fs : List Frame) (depth number left : ℕ) → depth ≡ length fs → left ≡ number
    → slice_get (frames_from m t spots 0 (take depth fs)) left ≡ slice_get (frames_from m t spots 0 fs) number
numbered_below m t spots fs depth number left all same =
    let whole : take depth fs ≡ fs = take_all depth fs (omega arith) in
    ap (λ l. slice_get (frames_from m t spots 0 l) left) whole ∙ ap (slice_get (frames_from m t spots 0 fs)) same

module _ (m : Accepted) (t : Tables) (spots : Spots) (fs : List Frame) (depth d : ℕ) (next : depth ≡ suc d) (left : ℕ) where
  -- among those of the calls below a depth, the last of which is this
  last_call : (call : Option Real) → call ≡ option_map (real_of d) (slice_get fs d)
      → slice_get (option_map_or (frames_at m t spots) call [] ++ frames_from m t spots 0 (take d fs)) left ≡ slice_get (frames_from m t spots 0 (take depth fs)) left
  last_call call is = sym (ap (λ l. slice_get l left) (below_more m t spots fs d call is)) ∙ ap (λ n. slice_get (frames_from m t spots 0 (take n fs)) left) (sym next)

  pub numbered_here : (r : Real) (count : ℕ) → Some r ≡ option_map (real_of d) (slice_get fs d) → count ≡ count_at spots r.word → left < count
      → slice_get (frames_at m t spots r) left ≡ slice_get (frames_from m t spots 0 (take depth fs)) left
  numbered_here r count is counted few =
      let all : count ≡ length (frames_at m t spots r) = counted ∙ sym (count_is m t spots r) in
      sym (get_first (frames_at m t spots r) (frames_from m t spots 0 (take d fs)) left (omega arith)) ∙ last_call (Some r) is

  pub numbered_past : (r : Real) (count : ℕ) → Some r ≡ option_map (real_of d) (slice_get fs d) → count ≡ count_at spots r.word → count ≤ left
      → slice_get (frames_from m t spots 0 (take d fs)) (left - count) ≡ slice_get (frames_from m t spots 0 (take depth fs)) left
  numbered_past r count is counted many =
      let all : count ≡ length (frames_at m t spots r) = counted ∙ sym (count_is m t spots r) in
      sym (get_second (frames_at m t spots r) (frames_from m t spots 0 (take d fs)) left (left - count) (omega arith)) ∙ last_call (Some r) is

  pub numbered_beyond : None ≡ option_map (real_of d) (slice_get fs d) → slice_get (frames_from m t spots 0 (take d fs)) left ≡ slice_get (frames_from m t spots 0 (take depth fs)) left
  numbered_beyond is = last_call None is

-- ---- the line of the innermost

named : (t : Tables) (none : Bool) (line : ℕ × ℕ) → option_map (line_named t) (cond none None (Some line)) ≡ cond none None (Some (line_named t line))
named t true line = refl
named t false line = refl

named_line : (m : Accepted) (t : Tables) (r : Real) (s : Spot) → option_map (line_named t) (source_line s.place) ≡ line_shown (first_frame m t r s)
named_line m t r s = by_function (s.place.function == 0)
  where
    by_function : (outside : Bool) → option_map (line_named t) (source_line s.place) ≡ line_shown (frame_at m t r (cond outside (plain s.place) s.place))
    by_function true = named t (s.place.line == 0) (s.place.file, s.place.line)
    by_function false = named t (s.place.line == 0) (s.place.file, s.place.line)

top_with : (o : Option Frame) (pc : ℕ) → option_map (λ (f : Frame). f.pc) o ≡ Some pc → (f : Frame) × (o ≡ Some f) × (pc ≡ f.pc)
top_with None pc e = absurd (cc)
top_with (Some f) pc e = (f, refl, cc)

top_without : (o : Option Frame) → option_map (λ (f : Frame). f.pc) o ≡ None → o ≡ None
top_without None e = refl
top_without (Some f) e = absurd (cc)

pub line_is : (m : Accepted) (t : Tables) (spots : Spots) (fs : List Frame) (pc : ℕ) (line : Option (ℕ × ℕ)) → option_map (λ (f : Frame). f.pc) (top fs) ≡ Some pc → line ≡ source_line (spot_in spots pc).place
    → option_map (line_named t) line ≡ option_and_then line_shown (slice_get (frames_from m t spots 0 fs) 0)
line_is m t spots fs pc line is here =
    let found = top_with (top fs) pc is in
    let f = found.0 in
    ap (option_map (line_named t)) (here ∙ ap (λ w. source_line (spot_in spots w).place) found.2)
    ∙ named_line m t (real_of (length fs - 1) f) (spot_in spots f.pc)
    ∙ sym (ap (option_and_then line_shown) (innermost_is m t spots fs f found.1))

pub no_line : (m : Accepted) (t : Tables) (spots : Spots) (fs : List Frame) (line : Option (ℕ × ℕ)) → option_map (λ (f : Frame). f.pc) (top fs) ≡ None → line ≡ None
    → option_map (line_named t) line ≡ option_and_then line_shown (slice_get (frames_from m t spots 0 fs) 0)
no_line m t spots fs line is none = ap (option_map (line_named t)) none ∙ sym (ap (option_and_then line_shown) (innermost_none m t spots fs (top_without (top fs) is)))
