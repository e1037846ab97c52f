-- Where finished invocations count as arrived: the barrier that a return may open is one of the module, and where some invocation moves none opens.
use Rattle.std.proofs.Common.{◌≡◌, ◌∙◌, ℕ, suc, ◌<◌, Bool, true, false, if◌then◌else◌, List, [], ◌∷◌, Option, Some, None, slice_get, refl, sym, ap, subst}
use Rattle.std.proofs.lemmas.Option.{slice_get_within}
use Rattle.std.specs.List.{list_any}
use Rattle.spv_statuses.specs.Group.{first_waiting, opens_at}
use Rattle.spv_statuses.specs.Invocations.{moves}
use Rattle.spv_statuses.specs.declared.invocations.Status.{Status}
use Rattle.spv_statuses.specs.declared.invocations.Status.TheVariants.{Ready, Arrived, Passed, Finished}
use Rattle.spv_statuses.proofs.Exports.{no_moving_opens}
use Rattle.spv_state.specs.Program.{Program}
use Rattle.spv_state.specs.Sound.{IsBarrier, IsSound}
use Rattle.spv_state.specs.State.{State, open_barrier}
use Rattle.spv_machine.specs.Step.{opened_at}
use Rattle.spv_machine.proofs.ReachedLemmas.{Facts}
use Rattle.spv_machine.proofs.SoundBarriers.{word_within}
use Rattle.spv_machine.proofs.StatusSteps.{has_top}

-- ---- the barrier at which the first one waits

waiting_at : (ss : List Status) (word : ℕ) → first_waiting ss ≡ Some word → (i : ℕ) × (slice_get ss i ≡ Some (Arrived word))
waiting_at [] word h = absurd (cc)
waiting_at (Ready ∷ ss) word h = let rest = waiting_at ss word h in (suc rest.0, rest.1)
waiting_at (Arrived at ∷ ss) word h = let same : at ≡ word = cc in (0, ap (λ (n : ℕ). Some (Arrived n)) same)
waiting_at (Passed ∷ ss) word h = let rest = waiting_at ss word h in (suc rest.0, rest.1)
waiting_at (Finished ∷ ss) word h = let rest = waiting_at ss word h in (suc rest.0, rest.1)

pub waiting_within : (p : Program) → Facts p.accepted → (s : State) (word : ℕ) → IsSound p s → first_waiting s.statuses.list ≡ Some word → word < s.statuses.words
waiting_within p known s word sound h =
    let there = waiting_at s.statuses.list word h in
    let top = has_top p s there.0 (Arrived word) sound (slice_get_within s.statuses.list there.0 (Arrived word) there.1) there.1 (λ e. cc) in
    let barrier : IsBarrier p.accepted word = top.waits.1 in
    subst (λ (n : ℕ). word < n) (sym sound.words) (word_within p.accepted word barrier.0 known.accepted barrier.1)

-- ---- what is looked up

-- the first one that waits where none moves
abbrev pub waiting_where : List Status → Option ℕ
waiting_where ss = if list_any moves ss then None else first_waiting ss

pub some_waits : (ss : List Status) (word : ℕ) → waiting_where ss ≡ Some word → first_waiting ss ≡ Some word
some_waits ss word h = by_moves (list_any moves ss) h
  where
    by_moves : (b : Bool) → (if b then None else first_waiting ss) ≡ Some word → first_waiting ss ≡ Some word
    by_moves true g = absurd (cc)
    by_moves false g = g

-- where there is none no barrier opens
pub none_opens : (p : Program) (s : State) → p.setup.finished_count ≡ true → waiting_where s.statuses.list ≡ None → s ≡ opened_at p (first_waiting s.statuses.list) s
none_opens p s counts h = by_moves (list_any moves s.statuses.list) refl h
  where
    by_first : (o : Option ℕ) → list_any moves s.statuses.list ≡ true → s ≡ opened_at p o s
    by_first None e = refl
    by_first (Some word) e =
        let stays : opens_at p.setup.finished_count word s.statuses.list ≡ false = ap (λ (b : Bool). opens_at b word s.statuses.list) counts ∙ no_moving_opens word s.statuses.list e in
        sym (ap (λ (b : Bool). if b then open_barrier s else s) stays)

    by_moves : (b : Bool) → list_any moves s.statuses.list ≡ b → (if b then None else first_waiting s.statuses.list) ≡ None → s ≡ opened_at p (first_waiting s.statuses.list) s
    by_moves true e g = by_first (first_waiting s.statuses.list) e
    by_moves false e g = sym (ap (λ (o : Option ℕ). opened_at p o s) g)
