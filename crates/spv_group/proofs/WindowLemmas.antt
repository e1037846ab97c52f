-- What a journal keeps, by the weights of events.
use Rattle.std.proofs.Common.{◌≡◌, ℕ, zero, suc, ◌+◌, ◌-◌, ◌≤◌, Bool, true, false, cond, max, List, [], ◌∷◌, ◌++◌, length, take, refl, sym, ap, ◌∙◌, subst, arith, inl, inr}
use Rattle.std.specs.Prelude.{nat_le}
use Rattle.std.specs.List.{range_with_len, sum_by}
use Rattle.std.proofs.lemmas.Bool.{cases_lt, leb-true, le-leb}
use Rattle.std.proofs.lemmas.List.Sums.{sum_by-cons, sum_by_push}
use Rattle.spv_journal.specs.Events.{Event, size_of, size, fitting}
use Rattle.spv_state.specs.Program.{Program}
use Rattle.spv_group.specs.Positions.{IsLeast}
use Rattle.spv_group.specs.History.{weight, weight_between, window, AreLight}
use Rattle.spv_group.proofs.PositionsLemmas.{least_is}

-- ---- sums of numbers in a row

abbrev total : (ℕ → ℕ) → (from count : ℕ) → ℕ
total w from count = sum_by w (range_with_len from count)

pub range_more : (a n : ℕ) → range_with_len a (suc n) ≡ range_with_len a n ++ (a + n) ∷ []
range_more a zero = let same : a ≡ a + 0 = omega arith in ap (λ k. k ∷ []) same
range_more a (suc n) = let same : (a + 1) + n ≡ a + suc n = omega arith in ap (λ l. a ∷ l) (range_more (a + 1) n ∙ ap (λ k. range_with_len (a + 1) n ++ k ∷ []) same)

total_more : (w : ℕ → ℕ) (a n : ℕ) → total w a (suc n) ≡ total w a n + w (a + n)
total_more w a n = ap (sum_by w) (range_more a n) ∙ sum_by_push w (range_with_len a n) (a + n)

total_later : (w : ℕ → ℕ) (d a n : ℕ) → total w (a + d) n ≤ total w a (d + n)
total_later w zero a n =
    let same : a + 0 ≡ a = omega arith in
    let count : 0 + n ≡ n = omega arith in
    subst (λ (m : ℕ). total w (a + 0) n ≤ total w a m) (sym count) (subst (λ (k : ℕ). total w k n ≤ total w a n) (sym same) (omega arith))
total_later w (suc d) a n =
    let next = total_later w d (a + 1) n in
    let same : (a + 1) + d ≡ a + suc d = omega arith in
    let later = subst (λ k. total w k n ≤ total w (a + 1) (d + n)) same next in
    let cons : total w a (suc (d + n)) ≡ w a + total w (a + 1) (d + n) = sum_by-cons w a (range_with_len (a + 1) (d + n)) in
    let count : suc d + n ≡ suc (d + n) = omega arith in
    subst (λ (m : ℕ). total w (a + suc d) n ≤ total w a m) (sym count) (omega arith)

-- ---- windows

pub between_more : (p : Program) (es : List ℕ) (k n : ℕ) → k ≤ n → weight_between p es k (suc n) ≡ weight_between p es k n + weight p es n
unfolding weight_between
between_more p es k n h =
    let count : suc n - k ≡ suc (n - k) = omega arith in
    let last : k + (n - k) ≡ n = omega arith in
    ap (total (weight p es) k) count ∙ total_more (weight p es) k (n - k) ∙ ap (λ j. total (weight p es) k (n - k) + weight p es j) last

pub between_none : (p : Program) (es : List ℕ) (k n : ℕ) → n ≤ k → weight_between p es k n ≡ 0
unfolding weight_between
between_none p es k n h = let count : n - k ≡ 0 = omega arith in ap (total (weight p es) k) count

pub between_later : (p : Program) (es : List ℕ) (k j n : ℕ) → k ≤ j → j ≤ n → weight_between p es j n ≤ weight_between p es k n
unfolding weight_between
between_later p es k j n h l =
    let from : k + (j - k) ≡ j = omega arith in
    let count : (j - k) + (n - j) ≡ n - k = omega arith in
    subst (λ (m : ℕ). total (weight p es) m (n - j) ≤ total (weight p es) k (n - k)) from
    (subst (λ (m : ℕ). total (weight p es) (k + (j - k)) (n - j) ≤ total (weight p es) k m) count (total_later (weight p es) (j - k) k (n - j)))

pub window_is : (limit : ℕ) (p : Program) (es : List ℕ) (n : ℕ) → IsLeast (λ k. nat_le (weight_between p es k n) limit) 0 n (window limit p es n)
unfolding window
window_is limit p es n = least_is (λ k. nat_le (weight_between p es k n) limit) 0 n (omega arith)

-- the events from a window on fit
pub window_fits : (limit : ℕ) (p : Program) (es : List ℕ) (n : ℕ) → weight_between p es (window limit p es n) n ≤ limit
window_fits limit p es n =
    let is = window_is limit p es n in
    elim (cases_lt (window limit p es n) n) [
      | inl l ↦ leb-true (weight_between p es (window limit p es n) n) limit (is.passes l)
      | inr l ↦ let none = between_none p es (window limit p es n) n l in omega arith
    ]

-- a window is no higher than a position from which on all events fit
pub window_least : (limit : ℕ) (p : Program) (es : List ℕ) (n k : ℕ) → weight_between p es k n ≤ limit → window limit p es n ≤ k
window_least limit p es n k fits =
    let is = window_is limit p es n in
    elim (cases_lt k (window limit p es n)) [
      | inl l ↦ absurd (differ (sym (is.before k (omega arith) l) ∙ le-leb (weight_between p es k n) limit fits))
      | inr l ↦ l
    ]
  where
    differ : false ≡ true → ⊥
    differ e = cc

pub window_rises : (limit : ℕ) (p : Program) (es : List ℕ) (n : ℕ) → window limit p es n ≤ window limit p es (suc n)
window_rises limit p es n =
    let is = window_is limit p es n in
    let fits = window_fits limit p es (suc n) in
    elim (cases_lt n (window limit p es (suc n))) [
      | inl l ↦ let to = is.to in omega arith
      | inr l ↦ let more = between_more p es (window limit p es (suc n)) n l in window_least limit p es n (window limit p es (suc n)) (omega arith)
    ]

pub windows_rise : (limit : ℕ) (p : Program) (es : List ℕ) (m n : ℕ) → m ≤ n → window limit p es m ≤ window limit p es n
windows_rise limit p es m zero h = let same : m ≡ 0 = omega arith in subst (λ (k : ℕ). window limit p es k ≤ window limit p es 0) (sym same) (omega arith)
windows_rise limit p es m (suc n) h =
    elim (cases_lt m (suc n)) [
      | inl l ↦ (let before = windows_rise limit p es m n (omega arith) in let last = window_rises limit p es n in omega arith)
      | inr l ↦ (let same : m ≡ suc n = omega arith in subst (λ (k : ℕ). window limit p es k ≤ window limit p es (suc n)) (sym same) (omega arith))
    ]

-- ---- what fits

fitting_length_with : (b : Bool) (room : ℕ) (v : Event) (vs : List Event) → length (fitting (room - size_of v) vs) ≤ length vs
    → length (cond b (v ∷ fitting (room - size_of v) vs) []) ≤ suc (length vs)
fitting_length_with true room v vs h = omega arith
fitting_length_with false room v vs h = omega arith

pub fitting_length : (room : ℕ) (vs : List Event) → length (fitting room vs) ≤ length vs
fitting_length room [] = omega arith
fitting_length room (v ∷ vs) = fitting_length_with (nat_le (size_of v) room) room v vs (fitting_length (room - size_of v) vs)

fitting_size_with : (b : Bool) (room : ℕ) (v : Event) (vs : List Event) → nat_le (size_of v) room ≡ b → size (fitting (room - size_of v) vs) ≤ room - size_of v
    → size (cond b (v ∷ fitting (room - size_of v) vs) []) ≤ room
fitting_size_with true room v vs e h = let l = leb-true (size_of v) room e in omega arith
fitting_size_with false room v vs e h = omega arith

pub fitting_size : (room : ℕ) (vs : List Event) → size (fitting room vs) ≤ room
fitting_size room [] = omega arith
fitting_size room (v ∷ vs) = fitting_size_with (nat_le (size_of v) room) room v vs refl (fitting_size (room - size_of v) vs)

fitting_light_with : (b : Bool) (w : ℕ → ℕ) (n room : ℕ) (v : Event) (vs : List Event) → size_of v ≤ w (n - 1) → AreLight w (n - 1) (fitting (room - size_of v) vs)
    → AreLight w n (cond b (v ∷ fitting (room - size_of v) vs) [])
fitting_light_with true w n room v vs first rest = (first, rest)
fitting_light_with false w n room v vs first rest = tt

pub fitting_light : (w : ℕ → ℕ) (n room : ℕ) (vs : List Event) → AreLight w n vs → AreLight w n (fitting room vs)
fitting_light w n room [] h = tt
fitting_light w n room (v ∷ vs) h = fitting_light_with (nat_le (size_of v) room) w n room v vs h.0 (fitting_light w (n - 1) (room - size_of v) vs h.1)

fitting_take_with : (b : Bool) (room : ℕ) (v : Event) (vs : List Event) → fitting (room - size_of v) vs ≡ take (length (fitting (room - size_of v) vs)) vs
    → cond b (v ∷ fitting (room - size_of v) vs) [] ≡ take (length (cond b (v ∷ fitting (room - size_of v) vs) [])) (v ∷ vs)
fitting_take_with true room v vs h = ap (λ xs. v ∷ xs) h
fitting_take_with false room v vs h = refl

-- the newest are kept
pub fitting_take : (room : ℕ) (vs : List Event) → fitting room vs ≡ take (length (fitting room vs)) vs
fitting_take room [] = refl
fitting_take room (v ∷ vs) = fitting_take_with (nat_le (size_of v) room) room v vs (fitting_take (room - size_of v) vs)

-- an event that there is room for, and those behind it
reaches_with : (k n room : ℕ) (v : Event) (vs : List Event) → size_of v ≤ room → n ≤ k + length (fitting (room - size_of v) vs) → suc n ≤ k + length (fitting room (v ∷ vs))
reaches_with k n room v vs small next =
    subst (λ (b : Bool). suc n ≤ k + length (cond b (v ∷ fitting (room - size_of v) vs) [])) (sym (le-leb (size_of v) room small)) (omega arith)

-- Where the newest events before position n from k on weigh no more than there is room for, they are kept.
pub fitting_reaches : (p : Program) (es : List ℕ) (k n room : ℕ) (vs : List Event) → AreLight (weight p es) n vs → length vs ≤ n → n ≤ k + length vs
    → weight_between p es k n ≤ room → n ≤ k + length (fitting room vs)
fitting_reaches p es k n room [] light made among fits = among
fitting_reaches p es k zero room (v ∷ vs) light made among fits = omega arith
fitting_reaches p es k (suc n) room (v ∷ vs) light made among fits =
    elim (cases_lt n k) [
      | inl l ↦ omega arith
      | inr l ↦ (
          let more = between_more p es k n l in
          let one : suc n - 1 ≡ n = omega arith in
          let first : size_of v ≤ weight p es n = subst (λ (m : ℕ). size_of v ≤ weight p es m) one light.0 in
          let rest : AreLight (weight p es) n vs = subst (λ (m : ℕ). AreLight (weight p es) m vs) one light.1 in
          let small : size_of v ≤ room = omega arith in
          reaches_with k n room v vs small (fitting_reaches p es k n (room - size_of v) vs rest (omega arith) (omega arith) (omega arith)))
    ]

-- an event more: what is kept then reaches as far back as before, or as the window does
pub keeps_window : (p : Program) (es : List ℕ) (n limit : ℕ) (vs : List Event) → AreLight (weight p es) n vs → length vs ≤ n
    → (n - length vs ≤ n - length (fitting limit vs)) × (n - length (fitting limit vs) ≤ max (n - length vs) (window limit p es n))
keeps_window p es n limit vs light made =
    let shorter = fitting_length limit vs in
    let k : ℕ = max (n - length vs) (window limit p es n) in
    let to = (window_is limit p es n).to in
    let later : weight_between p es k n ≤ weight_between p es (window limit p es n) n = between_later p es (window limit p es n) k n (omega arith) (omega arith) in
    let fits = window_fits limit p es n in
    let reach = fitting_reaches p es k n limit vs light made (omega arith) (omega arith) in
    (omega arith, omega arith)
