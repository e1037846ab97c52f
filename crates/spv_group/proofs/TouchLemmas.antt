-- The newest event that is kept is the one before the position.
use Rattle.std.proofs.Common.{◌≡◌, ◌∙◌, ℕ, zero, suc, ◌-◌, List, [], ◌∷◌, length, take, Option, Some, None, ap, sym, subst, arith}
use Rattle.std.specs.Prelude.{IfSome}
use Rattle.std.specs.Option.{IsSomeAnd}
use Rattle.spv_base.specs.declared.happenings.Happening.{Happening}
use Rattle.spv_setup.specs.Schedule.{Entries}
use Rattle.spv_journal.specs.Events.{Event, newest}
use Rattle.spv_journal.specs.Touches.{IsTouch}
use Rattle.spv_journal.specs.Undo.{Moment, before, past}
use Rattle.spv_journal.specs.declared.touches.Touch.{Touch}
use Rattle.spv_state.specs.Program.{Program}
use Rattle.spv_state.specs.State.{State}
use Rattle.spv_machine.specs.World.{Held as World}
use Rattle.spv_group.specs.Group.{Held, entries_in, group_at, state_in}
use Rattle.spv_group.specs.History.{moment_at, moments_below}
use Rattle.spv_group.specs.Motion.{IsRun}
use Rattle.spv_group.specs.Run.{happening_at, happening_before, run}
use Rattle.spv_group.proofs.EventLemmas.{entry_is}
use Rattle.spv_group.proofs.Histories.{front_is, happening_is}

-- what the newest event did, by the states of the run
newest_did : (p : Program) (es : List ℕ) (m : ℕ) (u : State) (ring : List Event) (h : Happening) (P : ℕ → State → Type 0) → past ring u ≡ take (length ring) (moments_below p es (suc m)) → happening_at p es m ≡ Some h
    → IsSomeAnd (newest ring) (λ v. P v.happening.inv (before v u)) → P h.inv (run p es m)
newest_did p es m u [] h P led at is = absurd is
newest_did p es m u (v ∷ vs) h P led at is =
    let one = front_is (record { happening = v.happening; state = before v u }) (moment_at p es m) (past vs (before v u)) (take (length vs) (moments_below p es m)) led in
    let state : before v u ≡ run p es m = ap (λ (x : Moment). x.state) one.0 in
    let happened : v.happening ≡ (moment_at p es m).happening = ap (λ (x : Moment). x.happening) one.0 in
    let there : Some (moment_at p es m).happening ≡ Some h = sym (happening_is p es m h.inv (sym (entry_is p es m h at))) ∙ at in
    let same : v.happening ≡ h = cc in
    subst (λ (s : State). P h.inv s) state (subst (λ (x : Happening). P x.inv (before v u)) same is)

touch_by : (p : Program) (s : Entries) (limit : ℕ) (w : World) (n : ℕ) (t : Touch) (h : Happening) → IsRun p s limit w n → happening_before p s.list n ≡ Some h
    → IsSomeAnd (newest w.ring) (λ v. IsTouch t v.happening.inv (before v w.state) w.state) → IsTouch t h.inv (run p s.list (n - 1)) (run p s.list n)
touch_by p s limit w zero t h is at did = absurd cc
touch_by p s limit w (suc m) t h is at did =
    let one : m ≡ suc m - 1 = omega arith in
    subst (λ (k : ℕ). IsTouch t h.inv (run p s.list k) (run p s.list (suc m))) one
    (subst (λ (u : State). IsTouch t h.inv (run p s.list m) u) is.state
    (newest_did p s.list m w.state w.ring h (λ i x. IsTouch t i x w.state) is.past at did))

-- as callers see it
pub touch_is : (p : Program) (s : Entries) (limit : ℕ) (w : World) (n : ℕ) (g : Held) (o : Option Touch) → IsRun p s limit w n → ◌≡◌ {A = Held} (record { program = p; schedule = s; position = n }) g
    → IfSome o (λ t. IsSomeAnd (newest w.ring) (λ v. IsTouch t v.happening.inv (before v w.state) w.state))
    → IfSome o (λ t. (h : Happening) → happening_before g.program (entries_in g) g.position ≡ Some h → IsTouch t h.inv (state_in (group_at (g.position - 1) g)) (state_in g))
touch_is p s limit w n g None is view did = did
touch_is p s limit w n g (Some t) is view did =
    subst (λ (v : Held). (h : Happening) → happening_before v.program (entries_in v) v.position ≡ Some h → IsTouch t h.inv (state_in (group_at (v.position - 1) v)) (state_in v)) view
    (λ h at. touch_by p s limit w n t h is at did)
