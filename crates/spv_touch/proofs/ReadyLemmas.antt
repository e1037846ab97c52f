-- What is told of an invocation's next event, by its status.
use Rattle.std.proofs.Common.{◌≡◌, ◌∙◌, ◌&&◌, not, ℕ, ◌-◌, ◌≤◌, Bool, true, false, nat_le, List, [], ◌∷◌, Option, Some, None, Result, Ok, Err, length, slice_get, refl, sym, ap, subst, arith}
use Rattle.std.proofs.lemmas.List.{length-take-le}
use Rattle.std.proofs.lemmas.Option.{slice_get-get_or}
use Rattle.std.specs.Option.{is_some, option_and_then, option_map, option_map_or}
use Rattle.spv_base.specs.declared.instructions.Inst.{Inst}
use Rattle.spv_base.proofs.Exports.{change_here}
use Rattle.spv_index.specs.Definitions.{at}
use Rattle.spv_frame.specs.Frames.{Held as Frame}
use Rattle.spv_frame.specs.Stacks.{Stacked, top}
use Rattle.spv_order.specs.declared.events.Event.{Event}
use Rattle.spv_statuses.specs.declared.invocations.Status.TheVariants.{Ready, Arrived, Passed, Finished}
use Rattle.spv_state.specs.Program.{Program}
use Rattle.spv_state.specs.State.{State, frames_of, pop_frame, top_of, without_last, without_top}
use Rattle.spv_sites.specs.Effects.{Effect}
use Rattle.spv_sites.specs.Instructions.{effect_of}
use Rattle.spv_sites.specs.declared.causes.Cause.{Cause}
use Rattle.spv_touch.specs.Seen.{Seen, Tells, seen_by, still}
use Rattle.spv_touch.specs.Touching.{Due, IsEvent, arrives_by, arrives_of, due_as, due_by, due_in, due_of, nothing, read_pointer, touched_by, touched_of}

module _ (p : Program) (s : State) (i : ℕ) where
  -- what is told of the event that is due
  abbrev told : Option Due → Seen
  told o = record { reads = (option_map_or (touched_by p s i) o nothing).reads; writes = (option_map_or (touched_by p s i) o nothing).writes; arrives = option_map_or (λ (e : Due). arrives_by p s i e.effect.control) o false }

  by_due : (e : Event) → Tells i (told (due_of p s i)) e → IsEvent p s i e
  unfolding touched_of arrives_of
  by_due e tells = record { invocation = tells.invocation; arrives = tells.arrives; reads = tells.reads; writes = tells.writes }

  -- none is
  pub idle_event : (e : Event) → due_of p s i ≡ None → Tells i still e → IsEvent p s i e
  idle_event e none tells = by_due e (subst (λ (k : Seen). Tells i k e) (sym (ap told none)) tells)

  told_result : (f : Frame) (d : Inst) (r : Result Effect Cause) → told (due_by f d r) ≡ seen_by p s i (read_pointer p s i f d) r
  told_result f d (Ok e) = refl
  told_result f d (Err cause) = refl

  due_ready : (f : Frame) (d : Inst) → slice_get s.statuses.list i ≡ Some Ready → top_of s i ≡ Some f → at p.accepted.insts f.pc ≡ Some d → due_of p s i ≡ due_by f d (effect_of p s i f d)
  unfolding due_of
  due_ready f d ready tops here = ap (due_as p s i) ready ∙ ap (option_and_then (due_in p s i)) tops ∙ ap (option_and_then (λ d. due_by f d (effect_of p s i f d))) here

  pub ready_event : (f : Frame) (d : Inst) (e : Event) → slice_get s.statuses.list i ≡ Some Ready → top_of s i ≡ Some f → at p.accepted.insts f.pc ≡ Some d
      → Tells i (seen_by p s i (read_pointer p s i f d) (effect_of p s i f d)) e → IsEvent p s i e
  ready_event f d e ready tops here tells =
      by_due e (subst (λ (k : Seen). Tells i k e) (sym (ap told (due_ready f d ready tops here) ∙ told_result f d (effect_of p s i f d))) tells)

  pub no_frame : slice_get s.statuses.list i ≡ Some Ready → top_of s i ≡ None → due_of p s i ≡ None
  unfolding due_of
  no_frame ready none = ap (due_as p s i) ready ∙ ap (option_and_then (due_in p s i)) none

  pub no_inst : (f : Frame) → slice_get s.statuses.list i ≡ Some Ready → top_of s i ≡ Some f → at p.accepted.insts f.pc ≡ None → due_of p s i ≡ None
  unfolding due_of
  no_inst f ready tops none = ap (due_as p s i) ready ∙ ap (option_and_then (due_in p s i)) tops ∙ ap (option_and_then (λ d. due_by f d (effect_of p s i f d))) none

  pub is_passed : slice_get s.statuses.list i ≡ Some Passed → due_of p s i ≡ None
  unfolding due_of
  is_passed is = ap (due_as p s i) is

  pub is_arrived : (word : ℕ) → slice_get s.statuses.list i ≡ Some (Arrived word) → due_of p s i ≡ None
  unfolding due_of
  is_arrived word is = ap (due_as p s i) is

  pub is_finished : slice_get s.statuses.list i ≡ Some Finished → due_of p s i ≡ None
  unfolding due_of
  is_finished is = ap (due_as p s i) is

  -- ---- returns of the entry point

  top_left : (fs : List Frame) → is_some (top (without_last fs)) ≡ true → 2 ≤ length fs
  top_left [] h = cc
  top_left (f ∷ []) h = cc
  top_left (f ∷ g ∷ fs) h = omega arith

  some_top : (f : Frame) (gs : List Frame) → 1 ≤ length gs → is_some (top gs) ≡ false → ⊥
  some_top f gs low h = let e = slice_get-get_or gs (length gs - 1) f (omega (arith, low)) in absurd (cc)

  no_top_left : (fs : List Frame) → is_some (top (without_last fs)) ≡ false → length fs ≤ 1
  no_top_left [] h = omega arith
  no_top_left (f ∷ []) h = omega arith
  no_top_left (f ∷ g ∷ fs) h = absurd (some_top f (without_last (f ∷ g ∷ fs)) (let many = length-take-le (length (f ∷ g ∷ fs) - 1) (f ∷ g ∷ fs) (omega arith) in omega arith) h)

  pub left_over : top_of (pop_frame i s) i ≡ top (without_last (frames_of s i))
  left_over = ap (λ (k : Option Stacked). top (option_map_or (λ (x : Stacked). x.frames) k [])) (change_here i without_top s.stacks) ∙ by (slice_get s.stacks i)
    where
      by : (o : Option Stacked) → top (option_map_or (λ (x : Stacked). x.frames) (option_map without_top o) []) ≡ top (without_last (option_map_or (λ (x : Stacked). x.frames) o []))
      by None = refl
      by (Some k) = refl

  -- a return is one of the entry point where one frame is there at most
  pub ending : (counts : Bool) (n : ℕ) → counts ≡ true → n ≡ length (frames_of s i) → nat_le n 1 ≡ (counts && not (is_some (top_of (pop_frame i s) i)))
  ending counts n so many =
      last (is_some (top (without_last (frames_of s i)))) refl ∙ ap (λ (o : Option Frame). not (is_some o)) (sym left_over)
      ∙ ap (λ (b : Bool). b && not (is_some (top_of (pop_frame i s) i))) (sym so)
    where
      last : (t : Bool) → is_some (top (without_last (frames_of s i))) ≡ t → nat_le n 1 ≡ not t
      last true h = let low = top_left (frames_of s i) h in grind arith
      last false h = let high = no_top_left (frames_of s i) h in grind arith
