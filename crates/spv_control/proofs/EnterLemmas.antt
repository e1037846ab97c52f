-- What calls and returns with a value do.
use Rattle.std.proofs.Common.{◌≡◌, ◌∙◌, ◌++◌, ℕ, List, [], ◌∷◌, length, Option, Some, None, Result, Ok, Err, ok_or, map, refl, sym, ap, subst}
use Rattle.spv_base.specs.Answers.{Answers}
use Rattle.spv_base.specs.Variables.{Roots}
use Rattle.spv_base.specs.declared.causes.Fail.{Fail}
use Rattle.spv_base.specs.declared.causes.Fail.TheVariants.{Refused, NoMemory}
use Rattle.spv_base.specs.declared.values.Value.{Value}
use Rattle.spv_ops.specs.Steps.{◌>>=◌}
use Rattle.spv_frame.specs.Frames.{Held as Frame}
use Rattle.spv_frame.specs.Registers.{Planned}
use Rattle.spv_initial.specs.Start.{variables}
use Rattle.spv_initial.specs.Variables.{targets_of}
use Rattle.spv_mem.specs.Memory.{AreVariables}
use Rattle.spv_plans.specs.Plans.{plan_of}
use Rattle.spv_valid.specs.Acceptance.{Accepted, IsAccepted}
use Rattle.spv_valid.specs.Validity.{IsValid}
use Rattle.spv_base.specs.declared.instructions.Inst.{Inst}
use Rattle.spv_state.specs.Actions.{action_of}
use Rattle.spv_state.specs.Events.{passed}
use Rattle.spv_state.specs.Sound.{IsCallOf, IsSoundFrame}
use Rattle.spv_state.specs.Start.{frame_roots}
use Rattle.spv_state.specs.Roots.{IsRooted}
use Rattle.spv_state.specs.State.{depth_of, frames_of}
use Rattle.spv_state.specs.declared.actions.Action.TheVariants.{Call, ReturnValue}
use Rattle.spv_state.proofs.Exports.{above_rooted, passed_sound}
use Rattle.spv_sites.specs.Calls.{arguments, callee, called, enters, parameters_of}
use Rattle.spv_sites.specs.Effects as spec
use Rattle.spv_sites.specs.Effects.{Enter, Leave, goes}
use Rattle.spv_sites.specs.Fits.{EnterFits}
use Rattle.spv_control.specs.Passing.{frame_due}
use Rattle.spv_sites.specs.Planned.{IsDue}
use Rattle.spv_sites.specs.Sites.{Site, accepted, due, values}
use Rattle.spv_sites.specs.declared.causes.Cause.{Cause}
use Rattle.spv_sites.specs.declared.causes.Cause.TheVariants.{NoValue}
use Rattle.spv_sites.specs.declared.effects.Effect.{Effect}
use Rattle.spv_sites.proofs.Exports.{due_by}
use Rattle.spv_plans.proofs.Exports.{function_is}

-- ---- OpFunctionCall

-- the frame that a call makes, behind the debug events that it passes first
abbrev pub begun : Site → Frame → Frame
begun x f = passed (accepted x) (length (frames_of x.state x.inv)) f

-- into a frame with variables
abbrev into : Site → Frame → Roots → Result spec.Effect Cause
into x f es = Ok (goes (Enter (begun x f) es))

call_due : (x : Site) → action_of x.inst ≡ Call → due x ≡ (frame_due x (callee x.inst) >>= (λ f. into x f (frame_roots (accepted x) (callee x.inst))))
call_due x is = due_by x Call is ∙ by_arguments (arguments x.program x.state x.inv x.frame x.inst 1 (parameters_of (accepted x) (callee x.inst)))
  where
    by_arguments : (r : Result (List (ℕ × Value)) Cause) → (r >>= (λ rs. Ok (enters (accepted x) (length (frames_of x.state x.inv)) (callee x.inst) rs)))
        ≡ ((r >>= (λ rs. Ok (called (accepted x) (callee x.inst) rs))) >>= (λ f. into x f (frame_roots (accepted x) (callee x.inst))))
    by_arguments (Ok rs) = refl
    by_arguments (Err cause) = refl

module _ (x : Site) (is : action_of x.inst ≡ Call) (function : ℕ) (named : function ≡ callee x.inst) where
  own_due : due x ≡ (frame_due x function >>= (λ f. into x f (frame_roots (accepted x) function)))
  own_due = call_due x is ∙ ap (λ (n : ℕ). frame_due x n >>= (λ f. into x f (frame_roots (accepted x) n))) (sym named)

  pub call_gives : (f g : Frame) (es : Roots) → frame_due x function ≡ Ok f → g ≡ begun x f → es ≡ frame_roots (accepted x) function → due x ≡ Ok (goes (Enter g es))
  call_gives f g es frame made variables_are =
      own_due ∙ ap (λ (r : Result Frame Cause). r >>= (λ h. into x h (frame_roots (accepted x) function))) frame ∙ ap (into x f) (sym variables_are)
      ∙ ap (λ (h : Frame). Ok (goes (Enter h es))) (sym made)

  pub call_faults : (v : Value) (r : Result Effect (Fail Cause)) (e : Fail Cause) → Answers (frame_due x function) (Err e) → r ≡ Err e → IsDue (due x) v r
  call_faults v r (Refused cause) h same =
      subst (λ (s : Result Effect (Fail Cause)). IsDue (due x) v s) (sym same) (own_due ∙ ap (λ (s : Result Frame Cause). s >>= (λ g. into x g (frame_roots (accepted x) function))) h)
  call_faults v r NoMemory h same = subst (λ (s : Result Effect (Fail Cause)). IsDue (due x) v s) (sym same) tt

-- the frame is as sound as it was, and of the same function
pub begun_sound : (x : Site) (m : Accepted) (f g : Frame) → m ≡ accepted x → ∥ IsAccepted m ∥₁ → ∥ IsValid m ∥₁ → g ≡ begun x f → IsSoundFrame (accepted x) f → IsSoundFrame (accepted x) g
begun_sound x m f g same accepts valid made sound =
    subst (IsSoundFrame (accepted x)) (sym made)
    (passed_sound (accepted x) (subst (λ (n : Accepted). ∥ IsAccepted n ∥₁) same accepts) (subst (λ (n : Accepted). ∥ IsValid n ∥₁) same valid) (length (frames_of x.state x.inv)) f sound)

-- and the pointers that are kept in it name variables that are there
pub begun_rooted : (x : Site) (m : Accepted) (f g : Frame) → m ≡ accepted x → ∥ IsAccepted m ∥₁ → ∥ IsValid m ∥₁ → g ≡ begun x f → IsSoundFrame (accepted x) f
    → IsRooted (accepted x) (frames_of x.state x.inv) (depth_of x.state x.inv) f → IsRooted (accepted x) (frames_of x.state x.inv ++ g ∷ []) (length (frames_of x.state x.inv)) g
begun_rooted x m f g same accepts valid made sound rooted =
    let a = accepted x in
    let fs = frames_of x.state x.inv in
    subst (λ (h : Frame). IsRooted a (fs ++ h ∷ []) (length fs) h) (sym made)
    (above_rooted a (subst (λ (n : Accepted). ∥ IsAccepted n ∥₁) same accepts) (subst (λ (n : Accepted). ∥ IsValid n ∥₁) same valid) fs f sound rooted)

pub begun_plan : (x : Site) (f g : Frame) (p : Planned) → g ≡ begun x f → f.plan ≡ p → g.plan ≡ p
begun_plan x f g p made plan = ap (λ (h : Frame). h.plan) made ∙ plan

pub enter_fits : (a : Accepted) (d : Inst) (function : ℕ) (f : Frame) (es : Roots) → function ≡ callee d → IsCallOf a d.word (callee d) → IsSoundFrame a f → f.plan ≡ plan_of a function → es ≡ frame_roots a function
    → AreVariables a.types (targets_of (variables a)) es → EnterFits a d f es
enter_fits a d function f es named call sound plan variables_are values =
    let own : f.plan.function ≡ function = ap (λ (p : Planned). p.function) plan ∙ function_is a function in
    record {
      call = subst (IsCallOf a d.word) (sym named ∙ sym own) call;
      sound = sound;
      locals = ap (λ (rs : Roots). map (λ (e : ℕ × Value). e.0) rs) (variables_are ∙ ap (frame_roots a) (sym own));
      values = values;
    }

-- ---- OpReturnValue

pub return_due : (x : Site) → action_of x.inst ≡ ReturnValue → due x ≡ (ok_or (values x 0) NoValue >>= (λ v. Ok (goes (Leave (Some v)))))
return_due x is = due_by x ReturnValue is

pub return_gives : (x : Site) (v : Value) → action_of x.inst ≡ ReturnValue → values x 0 ≡ Some v → due x ≡ Ok (goes (Leave (Some v)))
return_gives x v is value = return_due x is ∙ ap (λ (o : Option Value). ok_or o NoValue >>= (λ w. Ok (goes (Leave (Some w))))) value

pub return_missing : (x : Site) → action_of x.inst ≡ ReturnValue → values x 0 ≡ None → due x ≡ Err NoValue
return_missing x is none = return_due x is ∙ ap (λ (o : Option Value). ok_or o NoValue >>= (λ w. Ok (goes (Leave (Some w))))) none
