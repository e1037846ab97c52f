-- The events of a stretch, one after the other.
use Rattle.std.proofs.Common.{◌≡◌, ◌≤◌, ◌<◌, ◌∙◌, ◌+◌, ℕ, zero, suc, List, [], ◌∷◌, ◌++◌, length, length-append, Option, Some, None, slice_get, refl, ap, sym, subst, inl, inr, arith}
use Rattle.std.specs.Prelude.{slice_index_or, MatchOption, IfOk, Result, Ok, Err}
use Rattle.spv_base.specs.declared.causes.NoMemory.{NoMemory}
use Rattle.spv_group.specs.Group.{Held as Group, end_in, entries_in, group_at, state_in}
use Rattle.spv_races.specs.Answers.{AreFound, AreSound}
use Rattle.spv_state.specs.Sound.{IsSound}
use Rattle.spv_state.specs.State.{State}
use Rattle.std.proofs.lemmas.Bool.{cases_lt}
use Rattle.spv_exchanges.specs.Stretches.{AreEvents}
use Rattle.spv_group.specs.Run.{run}
use Rattle.spv_order.specs.declared.events.Event.{Event}
use Rattle.spv_state.specs.Program.{Program}
use Rattle.spv_touch.specs.Touching.{IsEvent}

-- an item of a list with one more at its end
pushed_before : {X : Type 0} (xs : List X) (y : X) (k : ℕ) → k < length xs → slice_get (xs ++ y ∷ []) k ≡ slice_get xs k
pushed_before [] y k low = absurd (omega (arith, low))
pushed_before (x ∷ xs) y zero low = refl
pushed_before (x ∷ xs) y (suc k) low = pushed_before xs y k (omega (arith, low))

pushed_last : {X : Type 0} (xs : List X) (y : X) → slice_get (xs ++ y ∷ []) (length xs) ≡ Some y
pushed_last [] y = refl
pushed_last (x ∷ xs) y = pushed_last xs y

none_past : {X : Type 0} (xs : List X) (k : ℕ) → length xs ≤ k → slice_get xs k ≡ None
none_past [] k high = refl
none_past (x ∷ xs) zero high = absurd (omega (arith, high))
none_past (x ∷ xs) (suc k) high = none_past xs k (omega (arith, high))

pub entry_at : (es : List ℕ) (k i : ℕ) → slice_get es k ≡ Some i → slice_index_or es k 0 ≡ i
entry_at [] k i is = cc
entry_at (e ∷ es) zero i is = cc
entry_at (e ∷ es) (suc k) i is = entry_at es k i is

pub past_all : (es : List ℕ) (k : ℕ) → slice_get es k ≡ None → length es ≤ k
past_all [] k is = omega arith
past_all (e ∷ es) zero is = cc
past_all (e ∷ es) (suc k) is = let less = past_all es k is in omega (arith, less)

pub none_yet : (p : Program) (entries : List ℕ) (from : ℕ) → AreEvents p entries from from []
none_yet p entries from = record { count = omega arith; each = λ k e is. cc }

module _ (p : Program) (entries : List ℕ) (from to : ℕ) (events : List Event) (e : Event) (low : from ≤ to) (are : AreEvents p entries from to events)
    (is : IsEvent p (run p entries to) (slice_index_or entries to 0) e) where
  abbrev At : ℕ → Event → Type 0
  At k f = IsEvent p (run p entries (from + k)) (slice_index_or entries (from + k) 0) f

  last : (k : ℕ) (f : Event) → k ≡ length events → slice_get (events ++ e ∷ []) k ≡ Some f → At k f
  last k f end at =
      let many = are.count in
      let here : to ≡ from + k = omega (arith, many, end, low) in
      let found : Some f ≡ Some e = sym at ∙ ap (slice_get (events ++ e ∷ [])) end ∙ pushed_last events e in
      let one : e ≡ f = cc in
      subst (At k) one (subst (λ (n : ℕ). IsEvent p (run p entries n) (slice_index_or entries n 0) e) here is)

  past : (k : ℕ) (f : Event) → length events < k → slice_get (events ++ e ∷ []) k ≡ Some f → At k f
  past k f high at =
      let many : length (events ++ e ∷ []) ≡ length events + 1 = length-append events (e ∷ []) in
      let none : slice_get (events ++ e ∷ []) k ≡ None = none_past (events ++ e ∷ []) k (omega (arith, many, high)) in
      let both : Some f ≡ None = sym at ∙ none in
      absurd (cc)

  each : (k : ℕ) (f : Event) → slice_get (events ++ e ∷ []) k ≡ Some f → At k f
  each k f at = elim (cases_lt k (length events)) [
    | inl before ↦ are.each k f (sym (pushed_before events e k before) ∙ at)
    | inr high ↦ elim (cases_lt (length events) k) [ inl behind ↦ past k f behind at | inr most ↦ last k f (omega (arith, high, most)) at ]
  ]

  pub one_more : (next : ℕ) (new : List Event) → next ≡ to + 1 → new ≡ events ++ e ∷ [] → AreEvents p entries from next new
  one_more next new on list =
      let many = are.count in
      let long : length new ≡ length events + 1 = ap length list ∙ length-append events (e ∷ []) in
      record {
        count = omega (arith, many, long, on, low);
        each = λ k f at. each k f (ap (λ l. slice_get l k) (sym list) ∙ at);
      }

-- ---- of a group

pub event_told : (p q : Program) (s t : State) (i j : ℕ) (e : Event) → p ≡ q → s ≡ t → i ≡ j → IsEvent p s i e → IsEvent q t j e
event_told p q s t i j e programs states invocations is =
    subst (λ (k : ℕ). IsEvent q t k e) invocations (subst (λ (x : State). IsEvent q x i e) states (subst (λ (x : Program). IsEvent x s i e) programs is))

-- by the group from which it went on
pub event_here : (g now : Group) (e : Event) → now ≡ group_at now.position g → IsEvent now.program (state_in now) (slice_index_or (entries_in now) now.position 0) e
    → IsEvent g.program (run g.program (entries_in g) now.position) (slice_index_or (entries_in g) now.position 0) e
event_here g now e same is = subst (λ (x : Group). IsEvent x.program (run x.program (entries_in x) now.position) (slice_index_or (entries_in x) now.position 0) e) same is

pub sound_here : (g now : Group) → now ≡ group_at now.position g → IsSound now.program (state_in now) → IsSound g.program (run g.program (entries_in g) now.position)
sound_here g now same is = subst (λ (x : Group). IsSound x.program (run x.program (entries_in x) now.position)) same is

-- none is between a position and itself
pub none_sound : (g : Group) (from : ℕ) → AreSound g from from
none_sound g from n a b = absurd (omega (arith, a, b))

-- and the state at the next
pub one_sound : (g : Group) (from to next : ℕ) → next ≡ to + 1 → AreSound g from to → IsSound g.program (run g.program (entries_in g) to) → AreSound g from next
one_sound g from to next on so_far here n a b = elim (cases_lt n to) [
  | inl low ↦ so_far n a low
  | inr high ↦ let same : to ≡ n = omega (arith, on, b, high) in subst (λ (k : ℕ). IsSound g.program (run g.program (entries_in g) k)) same here
]

-- the same by another position of the group
pub found_same : (g now : Group) (from to : ℕ) (events : List Event) → now ≡ group_at now.position g → now.position ≡ from → AreFound now now.position to events → AreFound g from to events
found_same g now from to events same here found =
    let program : now.program ≡ g.program = ap (λ (x : Group). x.program) same in
    let entries : entries_in now ≡ entries_in g = ap entries_in same in
    let end : end_in now ≡ end_in g = ap end_in same in
    let within = found.within in
    record {
      within = omega (arith, within, end);
      are = subst (λ (n : ℕ). AreEvents g.program (entries_in g) n to events) here (subst (λ (x : Group). AreEvents x.program (entries_in x) now.position to events) same found.are);
      sound = subst (λ (n : ℕ). AreSound g n to) here (subst (λ (x : Group). AreSound x now.position to) same found.sound);
    }

module _ {V : Type 0} (items : V → List Event) (g now : Group) (from to : ℕ) (same : now ≡ group_at now.position g) (here : now.position ≡ from) where
  by_option : (o : Option V) → MatchOption o (end_in now < to) (λ v. AreFound now now.position to (items v)) → MatchOption o (end_in g < to) (λ v. AreFound g from to (items v))
  by_option None past = let end : end_in now ≡ end_in g = ap end_in same in omega (arith, past, end)
  by_option (Some v) found = found_same g now from to (items v) same here found

  pub found_there : (r : Result (Option V) NoMemory) → IfOk r (λ o. MatchOption o (end_in now < to) (λ v. AreFound now now.position to (items v)))
      → IfOk r (λ o. MatchOption o (end_in g < to) (λ v. AreFound g from to (items v)))
  found_there (Ok o) is = by_option o is
  found_there (Err e) is = is
