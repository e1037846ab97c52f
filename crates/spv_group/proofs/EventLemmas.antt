-- An event is one of the invocation that its entry names, and where it is idle nothing changes.
use Rattle.std.proofs.Common.{◌≡◌, ◌∙◌, ℕ, zero, suc, ◌+◌, ◌-◌, true, Option, Some, None, List, refl, ap, sym, subst, add-one, arith}
use Rattle.std.specs.Prelude.{option_map, slice_get}
use Rattle.std.proofs.lemmas.Bool.{false≢true}
use Rattle.spv_base.specs.declared.happenings.Happening.{Happening}
use Rattle.spv_state.specs.Program.{Program}
use Rattle.spv_state.specs.State.{State}
use Rattle.spv_machine.specs.Kinds.{is_idle}
use Rattle.spv_machine.specs.Step.{Outcome, Idles, Moves, Faults, step_of}
use Rattle.spv_machine.proofs.Exports.{IsMoved, step_moves}
use Rattle.spv_group.specs.Group.{Held as Group, entries_in, group_at, state_in}
use Rattle.spv_group.specs.Run.{event, happening_at, happening_before, happening_in, run, state_after}

-- ---- a step

-- the event is one of the invocation, and an idle one leads to no other state
record IsEvent (i : ℕ) (s : State) (o : Outcome) : Type 0 where
  inv : (happening_in o i).inv ≡ i
  still : is_idle (happening_in o i).kind ≡ true → state_after o s ≡ s

outcome_event : (i : ℕ) (s : State) (o : Outcome) → IsMoved i o → IsEvent i s o
outcome_event i s Idles is = record { inv = refl; still = λ e. refl }
outcome_event i s (Moves h t) is = record { inv = is.inv; still = λ e. absurd (false≢true (sym is.moves ∙ e)) }
outcome_event i s (Faults f) is = record { inv = refl; still = λ e. refl }

step_event : (p : Program) (s : State) (i : ℕ) → IsEvent i s (step_of p s i)
step_event p s i = outcome_event i s (step_of p s i) (step_moves p s i)

-- ---- at a position of a run

entry_by : (p : Program) (s : State) (o : Option ℕ) (h : Happening) → option_map (λ i. happening_in (step_of p s i) i) o ≡ Some h → o ≡ Some h.inv
entry_by p s None h e = absurd (cc)
entry_by p s (Some i) h e =
    let same : happening_in (step_of p s i) i ≡ h = cc in
    ap Some (sym (step_event p s i).inv ∙ ap (λ (x : Happening). x.inv) same)

still_by : (p : Program) (s : State) (o : Option ℕ) (h : Happening) → option_map (λ i. happening_in (step_of p s i) i) o ≡ Some h → is_idle h.kind ≡ true → event p o s ≡ s
still_by p s None h e idle = refl
still_by p s (Some i) h e idle =
    let same : happening_in (step_of p s i) i ≡ h = cc in
    (step_event p s i).still (ap (λ (x : Happening). is_idle x.kind) same ∙ idle)

-- the entry of an event is its invocation
pub entry_is : (p : Program) (es : List ℕ) (n : ℕ) (h : Happening) → happening_at p es n ≡ Some h → slice_get es n ≡ Some h.inv
entry_is p es n h e = entry_by p (run p es n) (slice_get es n) h e

-- an idle event leads to the same state
pub idle_still : (g : Group) (n : ℕ) (h : Happening) → happening_at g.program (entries_in g) n ≡ Some h → is_idle h.kind ≡ true → state_in (group_at (n + 1) g) ≡ state_in (group_at n g)
idle_still g n h e idle =
    subst (λ m. run g.program (entries_in g) m ≡ run g.program (entries_in g) n) (sym (add-one n)) (still_by g.program (run g.program (entries_in g) n) (slice_get (entries_in g) n) h e idle)

-- ---- the event before a position is the one at the position before

pub event_behind : (g : Group) (n : ℕ) (h : Happening) → happening_at g.program (entries_in g) n ≡ Some h → happening_before g.program (entries_in g) (n + 1) ≡ Some h
event_behind g n h e = subst (λ m. happening_before g.program (entries_in g) m ≡ Some h) (sym (add-one n)) e

pub record IsBehind (g : Group) (n : ℕ) (h : Happening) : Type 0 where
  pub position : (n - 1) + 1 ≡ n
  pub event : happening_at g.program (entries_in g) (n - 1) ≡ Some h

pub event_before : (g : Group) (n : ℕ) (h : Happening) → happening_before g.program (entries_in g) n ≡ Some h → IsBehind g n h
event_before g zero h e = absurd (cc)
event_before g (suc m) h e =
    let back : m ≡ suc m - 1 = omega arith in
    record { position = omega arith; event = subst (λ k. happening_at g.program (entries_in g) k ≡ Some h) back e }
