-- The next event of an invocation in two states that look alike to it.
use Rattle.std.proofs.Common.{◌≡◌, ◌∙◌, ◌&&◌, not, ℕ, ◌-◌, false, List, Option, Some, None, Ok, length, slice_get, refl, sym, ap, subst}
use Rattle.std.specs.Option.{is_some, option_and_then, option_map, option_map_or}
use Rattle.spv_base.specs.declared.instructions.Inst.{Inst}
use Rattle.spv_base.specs.declared.values.Pointer.{Pointer}
use Rattle.spv_base.specs.declared.values.Value.{Value, out-Value}
use Rattle.spv_index.specs.Definitions.{at}
use Rattle.spv_types.specs.Shapes.{pointer_in}
use Rattle.spv_frame.specs.Frames.{Held as Frame}
use Rattle.spv_frame.specs.Stacks.{top}
use Rattle.spv_operands.specs.Values.{operand_value}
use Rattle.spv_statuses.specs.declared.invocations.Status.{Status}
use Rattle.spv_statuses.specs.declared.invocations.Status.TheVariants.{Ready, Arrived, Passed, Finished}
use Rattle.spv_state.specs.Actions.{action_of}
use Rattle.spv_state.specs.Program.{Program}
use Rattle.spv_state.specs.State.{State, depth_of, top_of}
use Rattle.spv_sites.specs.Effects.{Control, Effect, Next, Jump, Enter, Leave, Wait}
use Rattle.spv_sites.specs.Instructions.{effect_of}
use Rattle.spv_touch.specs.Touching.{Due, arrives_by, arrives_of, due_as, due_by, due_in, due_of, leaves_below, nothing, read_operand, read_pointer, touched_by, touched_of}
use Rattle.spv_touch.specs.Views.{AreApart, LookAlike}
use Rattle.spv_order.specs.declared.events.Leaves.{Leaves}
use Rattle.spv_touch.proofs.MemoryLemmas.{leaves_alike, loads_alike, loads_same}
use Rattle.spv_touch.proofs.RowLemmas.{frames, popped, rows_framed, rows_same}

module _ (p : Program) (s t : State) (i : ℕ) (some : List Leaves) (alike : LookAlike i some s t) where
  depth : depth_of s i ≡ depth_of t i
  depth = ap (λ (fs : List Frame). length fs - 1) (frames s t i alike.stack)

  pointers : (f : Frame) (d : Inst) → read_pointer p s i f d ≡ read_pointer p t i f d
  pointers f d = ap (λ (k : ℕ). option_and_then (λ n. option_and_then (λ v. pointer_in (out-Value v)) (operand_value p.accepted f k d n)) (read_operand (action_of d))) depth

  -- ---- the effect

  abbrev IsSeen : Frame → Inst → Type 0
  IsSeen f d = (e : Effect) → effect_of p s i f d ≡ Ok e → AreApart some (leaves_below s (read_pointer p s i f d))

  pub effects : (f : Frame) (d : Inst) → IsSeen f d → effect_of p s i f d ≡ effect_of p t i f d
  unfolding effect_of
  effects f d seen =
      rows_framed p s t i f d alike.stack (action_of d)
      ∙ rows_same p s t i f d alike.types alike.targets (loads_alike i some s t alike) (action_of d)
      (λ e is q there. loads_same i some s t alike q (subst (λ (o : Option Pointer). AreApart some (leaves_below s o)) (pointers f d ∙ there) (seen e (rows_framed p s t i f d alike.stack (action_of d) ∙ is))))

  -- ---- the event

  module _ (apart : AreApart some (touched_of p s i).reads) where
    pub listed : (e : Due) → due_of p s i ≡ Some e → AreApart some (leaves_below s (read_pointer p s i e.frame e.inst))
    unfolding touched_of
    listed e is = subst (λ (o : Option Due). AreApart some (option_map_or (touched_by p s i) o nothing).reads) is apart

    by_inst : (f : Frame) → due_of p s i ≡ due_in p s i f → (o : Option Inst) → at p.accepted.insts f.pc ≡ o → due_in p s i f ≡ due_in p t i f
    by_inst f is None none = ap (option_and_then (λ d. due_by f d (effect_of p s i f d))) none ∙ sym (ap (option_and_then (λ d. due_by f d (effect_of p t i f d))) none)
    by_inst f is (Some d) here =
        let this : due_in p s i f ≡ due_by f d (effect_of p s i f d) = ap (option_and_then (λ d. due_by f d (effect_of p s i f d))) here in
        let that : due_in p t i f ≡ due_by f d (effect_of p t i f d) = ap (option_and_then (λ d. due_by f d (effect_of p t i f d))) here in
        this ∙ ap (due_by f d) (effects f d (λ e done. listed (record { frame = f; inst = d; effect = e }) (is ∙ this ∙ ap (due_by f d) done))) ∙ sym that

    tops : top_of s i ≡ top_of t i
    tops = ap top (frames s t i alike.stack)

    by_top : (o : Option Frame) → top_of s i ≡ o → due_of p s i ≡ option_and_then (due_in p s i) (top_of s i) → option_and_then (due_in p s i) (top_of s i) ≡ option_and_then (due_in p t i) (top_of t i)
    by_top None none is = ap (option_and_then (due_in p s i)) none ∙ sym (ap (option_and_then (due_in p t i)) (sym tops ∙ none))
    by_top (Some f) here is =
        let this : option_and_then (due_in p s i) (top_of s i) ≡ due_in p s i f = ap (option_and_then (due_in p s i)) here in
        let that : option_and_then (due_in p t i) (top_of t i) ≡ due_in p t i f = ap (option_and_then (due_in p t i)) (sym tops ∙ here) in
        this ∙ by_inst f (is ∙ this) (at p.accepted.insts f.pc) refl ∙ sym that

    by_status : (o : Option Status) → slice_get s.statuses.list i ≡ o → due_as p s i o ≡ due_as p t i o
    unfolding due_of
    by_status None is = refl
    by_status (Some Ready) is = by_top (top_of s i) refl (ap (due_as p s i) is)
    by_status (Some (Arrived word)) is = refl
    by_status (Some Passed) is = refl
    by_status (Some Finished) is = refl

    pub same_due : due_of p s i ≡ due_of p t i
    unfolding due_of
    same_due = by_status (slice_get s.statuses.list i) refl ∙ ap (due_as p t i) alike.status

    below_alike : (o : Option Pointer) → leaves_below s o ≡ leaves_below t o
    below_alike None = refl
    below_alike (Some q) = leaves_alike i some s t alike q

    by_due : (o : Option Due) → option_map_or (touched_by p s i) o nothing ≡ option_map_or (touched_by p t i) o nothing
    by_due None = refl
    by_due (Some e) =
        let reads : leaves_below s (read_pointer p s i e.frame e.inst) ≡ leaves_below t (read_pointer p t i e.frame e.inst) = ap (leaves_below s) (pointers e.frame e.inst) ∙ below_alike (read_pointer p t i e.frame e.inst) in
        let writes : leaves_below s (option_map (λ (x : Pointer × Value). x.0) e.effect.store) ≡ leaves_below t (option_map (λ (x : Pointer × Value). x.0) e.effect.store) = below_alike (option_map (λ (x : Pointer × Value). x.0) e.effect.store) in
        cc

    pub same_touched : touched_of p s i ≡ touched_of p t i
    unfolding touched_of
    same_touched = ap (λ (o : Option Due). option_map_or (touched_by p s i) o nothing) same_due ∙ by_due (due_of p t i)

    by_control : (c : Control) → arrives_by p s i c ≡ arrives_by p t i c
    by_control Next = refl
    by_control (Jump block phis) = refl
    by_control (Enter frame es) = refl
    by_control (Leave v) = ap (λ (o : Option Frame). p.setup.finished_count && not (is_some o)) (popped s t i alike.stack)
    by_control Wait = refl

    arriving : (o : Option Due) → option_map_or (λ (e : Due). arrives_by p s i e.effect.control) o false ≡ option_map_or (λ (e : Due). arrives_by p t i e.effect.control) o false
    arriving None = refl
    arriving (Some e) = by_control e.effect.control

    pub same_arrival : arrives_of p s i ≡ arrives_of p t i
    unfolding arrives_of
    same_arrival = ap (λ (o : Option Due). option_map_or (λ (e : Due). arrives_by p s i e.effect.control) o false) same_due ∙ arriving (due_of p t i)
