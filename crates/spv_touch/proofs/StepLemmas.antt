-- What a step leaves to the other invocations, and what it makes of two states that look alike.
use Rattle.std.proofs.Common.{◌≡◌, ◌≢◌, ◌∙◌, ◌&&◌, not, ℕ, zero, suc, ◌-◌, Bool, true, false, List, [], ◌∷◌, Option, Some, None, Result, Ok, Err, length, take, slice_get, refl, sym, ap, subst}
use Rattle.std.specs.Prelude.{if◌then◌else◌}
use Rattle.std.specs.Option.{is_some, option_and_then, option_map, option_map_or}
use Rattle.spv_base.specs.Entries.{change}
use Rattle.spv_base.specs.declared.happenings.Happening.{Happening}
use Rattle.spv_base.specs.declared.instructions.Inst.{Inst}
use Rattle.spv_base.specs.declared.values.Pointer.{Pointer}
use Rattle.spv_base.specs.declared.values.Value.{Value}
use Rattle.spv_base.proofs.Exports.{change_here, length_change}
use Rattle.spv_index.specs.Definitions.{at}
use Rattle.spv_frame.specs.Frames.{Held as Frame}
use Rattle.spv_frame.specs.Stacks.{Stacked, on_top, top}
use Rattle.spv_statuses.specs.Group.{first_waiting}
use Rattle.spv_statuses.specs.declared.invocations.Status.{Status}
use Rattle.spv_statuses.specs.declared.invocations.Status.TheVariants.{Ready, Arrived, Passed, Finished}
use Rattle.spv_state.specs.Events.{passed}
use Rattle.spv_state.specs.Program.{Program}
use Rattle.spv_state.specs.State.{State, depth_of, on_frame, on_frames, pop_frame, put_store, set_status, top_of, with_pc, with_register, with_registers, without_last, without_top}
use Rattle.spv_sites.specs.Effects.{Control, Effect, Next, Jump, Enter, Leave, Wait}
use Rattle.spv_sites.specs.Instructions.{effect_of}
use Rattle.spv_sites.specs.declared.causes.Cause.{Cause}
use Rattle.spv_machine.specs.Step as step
use Rattle.spv_machine.specs.Step.{Outcome, Idles, Moves, Faults, apply, first_of, go, go_on, happening_of, id_at, jump, leave, next_of, opened_at, put, put_result, resume, step_of, stored_at, to_block, to_next}
use Rattle.spv_touch.specs.Touching.{Due, arrives_by, arrives_of, due_as, due_by, due_in, due_of, leaves_below, nothing, touched_by, touched_of}
use Rattle.spv_touch.specs.Views.{AreApart, KeepsOutline, LookAlike, StoreFits}
use Rattle.spv_order.specs.declared.events.Leaves.{Leaves}
use Rattle.spv_touch.proofs.ChangeLemmas.{frame_alike, frame_other, in_turn, pop_alike, pop_other, push_alike, push_other, status_alike, status_other, store_alike, store_other, unchanged}
use Rattle.spv_touch.proofs.EventLemmas.{effects, listed}
use Rattle.spv_touch.proofs.RowLemmas.{depths, frames, popped}

-- ---- returns

both_true : (b : Bool) → (b && true) ≡ false → b ≡ false
both_true false h = refl
both_true true h = cc

finished_alone : (p : Program) (i : ℕ) (s : State) → p.setup.finished_count ≡ false → step.finish p i s ≡ step.finished i s
finished_alone p i s quietly = ap (λ (b : Bool). if b then opened_at p (first_waiting (step.finished i s).statuses.list) (step.finished i s) else step.finished i s) quietly

-- the frames below the top one stay where the top one changes
take_changed : {A : Type 0} (k : ℕ) (g : A → A) (xs : List A) → take k (change k g xs) ≡ take k xs
take_changed k g [] = refl
take_changed zero g (x ∷ xs) = refl
take_changed (suc k) g (x ∷ xs) = ap (λ ys. x ∷ ys) (take_changed k g xs)

below_top : (g : Frame → Frame) (fs : List Frame) → without_last (on_top g fs) ≡ without_last fs
below_top g fs = ap (λ (n : ℕ). take (n - 1) (on_top g fs)) (length_change (length fs - 1) g fs) ∙ take_changed (length fs - 1) g fs

popped_after : (i : ℕ) (g : Frame → Frame) (s : State) → top_of (pop_frame i (on_frame i g s)) i ≡ top_of (pop_frame i s) i
popped_after i g s = ap (λ (o : Option Stacked). top (option_map_or (λ (k : Stacked). k.frames) o []))
    (change_here i without_top (change i (on_frames g) s.stacks) ∙ ap (option_map without_top) (change_here i (on_frames g) s.stacks)) ∙ by (slice_get s.stacks i)
    ∙ sym (ap (λ (o : Option Stacked). top (option_map_or (λ (k : Stacked). k.frames) o [])) (change_here i without_top s.stacks))
  where
    by : (o : Option Stacked) → top (option_map_or (λ (k : Stacked). k.frames) (option_map without_top (option_map (on_frames g) o)) [])
        ≡ top (option_map_or (λ (k : Stacked). k.frames) (option_map without_top o) [])
    by None = refl
    by (Some k) = ap top (below_top g k.frames)

popped_stored : (i : ℕ) (o : Option (Pointer × Value)) (s : State) → top_of (pop_frame i (put_store i o s)) i ≡ top_of (pop_frame i s) i
popped_stored i None s = refl
popped_stored i (Some e) s = refl

popped_put : (i id : ℕ) (o : Option Value) (s : State) → top_of (pop_frame i (put_result i id o s)) i ≡ top_of (pop_frame i s) i
popped_put i id None s = refl
popped_put i id (Some v) s = popped_after i (with_register id v) s

-- an event arrives or doesn't, whether its store and result are put before or not
arrives_put : (p : Program) (i id : ℕ) (e : Effect) (s : State) (c : Control) → arrives_by p (put i id e s) i c ≡ arrives_by p s i c
arrives_put p i id e s Next = refl
arrives_put p i id e s (Jump block phis) = refl
arrives_put p i id e s (Enter frame es) = refl
arrives_put p i id e s (Leave v) =
    ap (λ (o : Option Frame). p.setup.finished_count && not (is_some o)) (popped_put i id e.result (put_store i e.store s) ∙ popped_stored i e.store s)
arrives_put p i id e s Wait = refl

-- ---- of another invocation

module _ (p : Program) (i j : ℕ) (ne : i ≢ j) (some : List Leaves) where
  on_other : (s : State) → LookAlike j some s (go_on p.accepted i s)
  on_other s = in_turn j some s (to_next p.accepted i s) (go_on p.accepted i s) (frame_other i j ne some s _) (frame_other i j ne some (to_next p.accepted i s) _)

  jump_other : (block : ℕ) (phis : List (ℕ × Value)) (s : State) → LookAlike j some s (jump p.accepted i block phis s)
  jump_other block phis s = in_turn j some s (to_block p.accepted i block phis s) (jump p.accepted i block phis s) (frame_other i j ne some s _) (frame_other i j ne some (to_block p.accepted i block phis s) _)

  put_other : (id : ℕ) (o : Option Value) (s : State) → LookAlike j some s (put_result i id o s)
  put_other id None s = unchanged j some s
  put_other id (Some v) s = frame_other i j ne some s (with_register id v)

  resume_other : (v : Option Value) (s : State) (o : Option Frame) → (p.setup.finished_count && not (is_some o)) ≡ false → LookAlike j some s (resume p i v s o)
  resume_other v s None quietly = subst (λ (t : State). LookAlike j some s t) (sym (finished_alone p i s (both_true p.setup.finished_count quietly))) (status_other i j ne some s Finished)
  resume_other v s (Some f) quietly =
      in_turn j some s (put_result i (id_at p.accepted f.pc) v s) (resume p i v s (Some f)) (put_other (id_at p.accepted f.pc) v s) (on_other (put_result i (id_at p.accepted f.pc) v s))

  go_other : (word : ℕ) (c : Control) (s : State) → arrives_by p s i c ≡ false → LookAlike j some s (go p i word c s)
  go_other word Next s quietly = on_other s
  go_other word (Jump block phis) s quietly = jump_other block phis s
  go_other word (Enter frame es) s quietly = push_other i j ne some s frame es
  go_other word (Leave v) s quietly = in_turn j some s (pop_frame i s) (leave p i v s) (pop_other i j ne some s) (resume_other v (pop_frame i s) (top_of (pop_frame i s) i) quietly)
  go_other word Wait s quietly = cc

-- ---- of the invocation itself

module _ (p : Program) (i : ℕ) (some : List Leaves) where
  on_alike : (s t : State) → LookAlike i some s t → LookAlike i some (go_on p.accepted i s) (go_on p.accepted i t)
  on_alike s t alike =
      let moved : LookAlike i some (to_next p.accepted i s) (to_next p.accepted i t) = frame_alike i some s t alike (λ (f : Frame). with_pc (next_of p.accepted f.pc) f) in
      subst (λ (k : ℕ). LookAlike i some (go_on p.accepted i s) (on_frame i (passed p.accepted k) (to_next p.accepted i t)))
      (depths (to_next p.accepted i s) (to_next p.accepted i t) i moved.stack)
      (frame_alike i some (to_next p.accepted i s) (to_next p.accepted i t) moved (passed p.accepted (depth_of (to_next p.accepted i s) i)))

  jump_alike : (block : ℕ) (phis : List (ℕ × Value)) (s t : State) → LookAlike i some s t → LookAlike i some (jump p.accepted i block phis s) (jump p.accepted i block phis t)
  jump_alike block phis s t alike =
      let moved : LookAlike i some (to_block p.accepted i block phis s) (to_block p.accepted i block phis t) =
      frame_alike i some s t alike (λ (f : Frame). with_pc (first_of p.accepted block) (with_registers phis f)) in
      subst (λ (k : ℕ). LookAlike i some (jump p.accepted i block phis s) (on_frame i (passed p.accepted k) (to_block p.accepted i block phis t)))
      (depths (to_block p.accepted i block phis s) (to_block p.accepted i block phis t) i moved.stack)
      (frame_alike i some (to_block p.accepted i block phis s) (to_block p.accepted i block phis t) moved (passed p.accepted (depth_of (to_block p.accepted i block phis s) i)))

  put_alike : (id : ℕ) (o : Option Value) (s t : State) → LookAlike i some s t → LookAlike i some (put_result i id o s) (put_result i id o t)
  put_alike id None s t alike = alike
  put_alike id (Some v) s t alike = frame_alike i some s t alike (with_register id v)

  resume_alike : (v : Option Value) (s t : State) → LookAlike i some s t → (o : Option Frame) → (p.setup.finished_count && not (is_some o)) ≡ false
      → LookAlike i some (resume p i v s o) (resume p i v t o)
  resume_alike v s t alike None quietly =
      let one = both_true p.setup.finished_count quietly in
      subst (λ (x : State). LookAlike i some x (resume p i v t None)) (sym (finished_alone p i s one))
      (subst (λ (x : State). LookAlike i some (step.finished i s) x) (sym (finished_alone p i t one)) (status_alike i some s t alike Finished))
  resume_alike v s t alike (Some f) quietly =
      on_alike (put_result i (id_at p.accepted f.pc) v s) (put_result i (id_at p.accepted f.pc) v t) (put_alike (id_at p.accepted f.pc) v s t alike)

  go_alike : (word : ℕ) (c : Control) (s t : State) → LookAlike i some s t → arrives_by p s i c ≡ false → LookAlike i some (go p i word c s) (go p i word c t)
  go_alike word Next s t alike quietly = on_alike s t alike
  go_alike word (Jump block phis) s t alike quietly = jump_alike block phis s t alike
  go_alike word (Enter frame es) s t alike quietly = push_alike i some s t alike frame es
  go_alike word (Leave v) s t alike quietly =
      subst (λ (o : Option Frame). LookAlike i some (leave p i v s) (resume p i v (pop_frame i t) o)) (popped s t i alike.stack)
      (resume_alike v (pop_frame i s) (pop_frame i t) (pop_alike i some s t alike) (top_of (pop_frame i s) i) quietly)
  go_alike word Wait s t alike quietly = cc

-- ---- steps

abbrev next_in : State → Outcome → State
next_in s Idles = s
next_in s (Moves h next) = next
next_in s (Faults fault) = s

abbrev event_in : Happening → Outcome → Happening
event_in g Idles = g
event_in g (Moves h next) = h
event_in g (Faults fault) = g

-- what is due to a Ready invocation
pub due_is : (p : Program) (s : State) (i : ℕ) (f : Frame) (d : Inst) (e : Effect) → slice_get s.statuses.list i ≡ Some Ready → top_of s i ≡ Some f → at p.accepted.insts f.pc ≡ Some d
    → effect_of p s i f d ≡ Ok e → due_of p s i ≡ Some (record { frame = f; inst = d; effect = e })
unfolding due_of
due_is p s i f d e ready tops here done =
    ap (due_as p s i) ready ∙ ap (option_and_then (due_in p s i)) tops ∙ ap (option_and_then (λ d. due_by f d (effect_of p s i f d))) here ∙ ap (due_by f d) done

arrival_is : (p : Program) (s : State) (i : ℕ) (e : Due) → due_of p s i ≡ Some e → arrives_of p s i ≡ arrives_by p s i e.effect.control
unfolding arrives_of
arrival_is p s i e is = ap (λ (o : Option Due). option_map_or (λ (x : Due). arrives_by p s i x.effect.control) o false) is

touching_is : (p : Program) (s : State) (i : ℕ) (e : Due) → due_of p s i ≡ Some e → touched_of p s i ≡ touched_by p s i e
unfolding touched_of
touching_is p s i e is = ap (λ (o : Option Due). option_map_or (touched_by p s i) o nothing) is

-- what an effect that arrives at quietly barrier leaves to another invocation
moved_other : (p : Program) (s : State) (i j : ℕ) (e : Due) → i ≢ j → KeepsOutline s i e.effect.store → arrives_by p s i e.effect.control ≡ false
    → LookAlike j (touched_by p s i e).writes s (apply p i e.inst e.effect s)
moved_other p s i j e ne keeps quietly =
    let writes : List Leaves = leaves_below s (option_map (λ (x : Pointer × Value). x.0) e.effect.store) in
    let t : State = put_store i e.effect.store s in
    let u : State = put i e.inst.id e.effect s in
    in_turn j writes s t (apply p i e.inst e.effect s) (store_other i j ne s e.effect.store keeps)
    (in_turn j writes t u (apply p i e.inst e.effect s) (put_other p i j ne writes e.inst.id e.effect.result t)
    (go_other p i j ne writes e.inst.word e.effect.control u (arrives_put p i e.inst.id e.effect s e.effect.control ∙ quietly)))

-- and what it makes of two states that look alike
moved_alike : (p : Program) (s t : State) (i : ℕ) (some : List Leaves) (e : Due) → LookAlike i some s t → KeepsOutline s i e.effect.store → arrives_by p s i e.effect.control ≡ false
    → LookAlike i some (apply p i e.inst e.effect s) (apply p i e.inst e.effect t)
moved_alike p s t i some e alike keeps quietly =
    go_alike p i some e.inst.word e.effect.control (put i e.inst.id e.effect s) (put i e.inst.id e.effect t)
    (put_alike p i some e.inst.id e.effect.result (put_store i e.effect.store s) (put_store i e.effect.store t) (store_alike i some s t alike e.effect.store keeps))
    (arrives_put p i e.inst.id e.effect s e.effect.control ∙ quietly)

-- the happening doesn't depend on the state where the invocation doesn't wait
happens : (p : Program) (s t : State) (i word : ℕ) (e : Effect) → arrives_by p s i e.control ≡ false → happening_of p s i word e ≡ happening_of p t i word e
happens p s t i word e quietly = by_control e.control quietly
  where
    by_control : (c : Control) → arrives_by p s i c ≡ false → step.by_control p i word s (stored_at p.accepted i word e.store) c ≡ step.by_control p i word t (stored_at p.accepted i word e.store) c
    by_control Next quietly = refl
    by_control (Jump block phis) quietly = refl
    by_control (Enter frame es) quietly = refl
    by_control (Leave v) quietly = refl
    by_control Wait quietly = cc

module _ (p : Program) (s next : State) (i : ℕ) (h : Happening) (fits : StoreFits p s i) (quietly : arrives_of p s i ≡ false) where
  -- ---- what it leaves to another one

  module _ (j : ℕ) (ne : i ≢ j) where
    abbrev Left : Type 0
    Left = LookAlike j (touched_of p s i).writes s next

    left_by : (f : Frame) (d : Inst) (r : Result Effect Cause) → slice_get s.statuses.list i ≡ Some Ready → top_of s i ≡ Some f → at p.accepted.insts f.pc ≡ Some d
        → effect_of p s i f d ≡ r → step.outcome p s i d r ≡ Moves h next → Left
    left_by f d (Err cause) ready tops here done is = cc
    left_by f d (Ok e) ready tops here done is =
        let due : due_of p s i ≡ Some (record { frame = f; inst = d; effect = e }) = due_is p s i f d e ready tops here done in
        let leads : apply p i d e s ≡ next = ap (next_in s) is in
        subst (λ (t : State). LookAlike j (touched_of p s i).writes s t) leads (subst (λ x. LookAlike j x.writes s (apply p i d e s)) (sym (touching_is p s i _ due))
        (moved_other p s i j (record { frame = f; inst = d; effect = e }) ne (fits _ due) (sym (arrival_is p s i _ due) ∙ quietly)))

    left_at : (f : Frame) (o : Option Inst) → slice_get s.statuses.list i ≡ Some Ready → top_of s i ≡ Some f → at p.accepted.insts f.pc ≡ o → step.at_inst p s i f o ≡ Moves h next → Left
    left_at f None ready tops here is = cc
    left_at f (Some d) ready tops here is = left_by f d (effect_of p s i f d) ready tops here refl is

    left_in : (o : Option Frame) → slice_get s.statuses.list i ≡ Some Ready → top_of s i ≡ o → step.at_frame p s i o ≡ Moves h next → Left
    left_in None ready tops is = cc
    left_in (Some f) ready tops is = left_at f (at p.accepted.insts f.pc) ready tops refl is

    left_past : (o : Option Frame) → step.past_frame p s i o ≡ Moves h next → Left
    left_past None is = cc
    left_past (Some f) is =
        subst (λ (t : State). LookAlike j (touched_of p s i).writes s t) (ap (next_in s) is)
        (in_turn j (touched_of p s i).writes s (go_on p.accepted i s) (set_status i Ready (go_on p.accepted i s)) (on_other p i j ne (touched_of p s i).writes s)
        (status_other i j ne (touched_of p s i).writes (go_on p.accepted i s) Ready))

    left_as : (o : Option Status) → slice_get s.statuses.list i ≡ o → step.by_status p s i o ≡ Moves h next → Left
    left_as None held is = cc
    left_as (Some Ready) held is = left_in (top_of s i) held refl is
    left_as (Some (Arrived word)) held is = cc
    left_as (Some Passed) held is = left_past (top_of s i) is
    left_as (Some Finished) held is = cc

    pub left : step_of p s i ≡ Moves h next → Left
    unfolding step_of
    left is = left_as (slice_get s.statuses.list i) refl is

  -- ---- what it makes of states that look alike

  module _ (t : State) (some : List Leaves) (alike : LookAlike i some s t) (apart : AreApart some (touched_of p s i).reads) where
    abbrev Made : Type 0
    Made = (u : State) × (step_of p t i ≡ Moves h u) × LookAlike i some next u

    tops_same : top_of s i ≡ top_of t i
    tops_same = ap top (frames s t i alike.stack)

    made_by : (f : Frame) (d : Inst) (r : Result Effect Cause) → slice_get s.statuses.list i ≡ Some Ready → top_of s i ≡ Some f → at p.accepted.insts f.pc ≡ Some d
        → effect_of p s i f d ≡ r → step.outcome p s i d r ≡ Moves h next → Made
    unfolding step_of
    made_by f d (Err cause) ready tops here done is = cc
    made_by f d (Ok e) ready tops here done is =
        let due : due_of p s i ≡ Some (record { frame = f; inst = d; effect = e }) = due_is p s i f d e ready tops here done in
        let quiet : arrives_by p s i e.control ≡ false = sym (arrival_is p s i _ due) ∙ quietly in
        let seen : effect_of p t i f d ≡ Ok e =
        sym (effects p s t i some alike f d (λ x ok. listed p s t i some alike apart (record { frame = f; inst = d; effect = x }) (due_is p s i f d x ready tops here ok))) ∙ done in
        let leads : apply p i d e s ≡ next = ap (next_in s) is in
        let event : happening_of p s i d.word e ≡ h = ap (event_in h) is in
        let there : step_of p t i ≡ Moves (happening_of p t i d.word e) (apply p i d e t) =
        ap (step.by_status p t i) (sym alike.status ∙ ready) ∙ ap (step.at_frame p t i) (sym tops_same ∙ tops) ∙ ap (step.at_inst p t i f) here ∙ ap (step.outcome p t i d) seen in (
          apply p i d e t,
          there ∙ ap (λ (g : Happening). Moves g (apply p i d e t)) (sym (happens p s t i d.word e quiet) ∙ event),
          subst (λ (x : State). LookAlike i some x (apply p i d e t)) leads (moved_alike p s t i some (record { frame = f; inst = d; effect = e }) alike (fits _ due) quiet),
        )

    made_at : (f : Frame) (o : Option Inst) → slice_get s.statuses.list i ≡ Some Ready → top_of s i ≡ Some f → at p.accepted.insts f.pc ≡ o → step.at_inst p s i f o ≡ Moves h next → Made
    made_at f None ready tops here is = cc
    made_at f (Some d) ready tops here is = made_by f d (effect_of p s i f d) ready tops here refl is

    made_in : (o : Option Frame) → slice_get s.statuses.list i ≡ Some Ready → top_of s i ≡ o → step.at_frame p s i o ≡ Moves h next → Made
    made_in None ready tops is = cc
    made_in (Some f) ready tops is = made_at f (at p.accepted.insts f.pc) ready tops refl is

    made_past : (o : Option Frame) → slice_get s.statuses.list i ≡ Some Passed → top_of s i ≡ o → step.past_frame p s i o ≡ Moves h next → Made
    unfolding step_of
    made_past None past tops is = cc
    made_past (Some f) past tops is =
        let there : step_of p t i ≡ Moves (step.plain i f.pc) (set_status i Ready (go_on p.accepted i t)) =
        ap (step.by_status p t i) (sym alike.status ∙ past) ∙ ap (step.past_frame p t i) (sym tops_same ∙ tops) in (
          set_status i Ready (go_on p.accepted i t),
          there ∙ ap (λ (g : Happening). Moves g (set_status i Ready (go_on p.accepted i t))) (ap (event_in h) is),
          subst (λ (x : State). LookAlike i some x (set_status i Ready (go_on p.accepted i t))) (ap (next_in s) is)
              (status_alike i some (go_on p.accepted i s) (go_on p.accepted i t) (on_alike p i some s t alike) Ready),
        )

    made_as : (o : Option Status) → slice_get s.statuses.list i ≡ o → step.by_status p s i o ≡ Moves h next → Made
    made_as None held is = cc
    made_as (Some Ready) held is = made_in (top_of s i) held refl is
    made_as (Some (Arrived word)) held is = cc
    made_as (Some Passed) held is = made_past (top_of s i) held refl is
    made_as (Some Finished) held is = cc

    pub made : step_of p s i ≡ Moves h next → Made
    unfolding step_of
    made is = made_as (slice_get s.statuses.list i) refl is
