-- A change of the top frame of an invocation leaves a sound state, where it leaves a sound frame of the same function.
use Rattle.std.proofs.Common.{◌≡◌, ◌≢◌, ◌⊎◌, ◌∙◌, ◌↔◌, inl, inr, ℕ, zero, suc, ◌-◌, List, [], ◌∷◌, Option, Some, length, slice_get, refl, sym, ap, subst, arith}
use Rattle.std.proofs.lemmas.Bool.{cases_eq}
use Rattle.std.proofs.lemmas.Option.{slice_get_within}
use Rattle.std.specs.List.{AllZip}
use Rattle.std.specs.Option.{option_map_or}
use Rattle.spv_base.specs.Entries.{change}
use Rattle.spv_base.specs.Variables.{Roots}
use Rattle.spv_base.proofs.Exports.{length_change, change_here}
use Rattle.spv_actions.specs.Below.spv_mem.specs.Memory.{Levels}
use Rattle.spv_frame.specs.Frames.{Held as Frame}
use Rattle.spv_frame.specs.Registers.{Planned}
use Rattle.spv_frame.specs.Stacks.{Stacked, on_top, top}
use Rattle.spv_statuses.specs.declared.invocations.Status.{Status}
use Rattle.spv_statuses.specs.declared.invocations.Status.TheVariants.{Finished}
use Rattle.spv_valid.specs.Acceptance.{Accepted}
use Rattle.spv_state.specs.Sound.{HasVariables, IsCallOf, IsSoundFrame, IsSoundStack, StandsAs}
use Rattle.spv_state.specs.Roots.{IsRooted}
use Rattle.spv_state.specs.State.{State, frames_of, on_frames}
use Rattle.spv_state.proofs.Exports.{change_other, changed_from, ids_changed, rooted_stays}

-- ---- invocation by invocation

-- the status, the stack and the variables of each invocation agree
abbrev pub AreSoundStacks : Accepted → List Status → List Stacked → List Levels → Type 0
AreSoundStacks a ts ks ls = (i : ℕ) (t : Status) (k : Stacked) (l : Levels) → slice_get ts i ≡ Some t → slice_get ks i ≡ Some k → slice_get ls i ≡ Some l → IsSoundStack a t k l

-- those of one invocation change
module _ (a : Accepted) (i : ℕ) (st : Status → Status) (g : Stacked → Stacked) (h : Levels → Levels) (ts : List Status) (ks : List Stacked) (ls : List Levels) where
  pub one_changed : AreSoundStacks a ts ks ls
      → ((t : Status) (k : Stacked) (l : Levels) → slice_get ts i ≡ Some t → slice_get ks i ≡ Some k → slice_get ls i ≡ Some l → IsSoundStack a t k l → IsSoundStack a (st t) (g k) (h l))
      → AreSoundStacks a (change i st ts) (change i g ks) (change i h ls)
  one_changed all changed j t k l status stack level = by_number (cases_eq i j)
    where
      by_number : (i ≡ j) ⊎ (i ≡ j → ⊥) → IsSoundStack a t k l
      by_number (inr apart) =
          all j t k l (sym (change_other i j st ts apart) ∙ status) (sym (change_other i j g ks apart) ∙ stack) (sym (change_other i j h ls apart) ∙ level)
      by_number (inl same) =
          let own_status : slice_get (change i st ts) i ≡ Some t = subst (λ (n : ℕ). slice_get (change i st ts) n ≡ Some t) (sym same) status in
          let own_stack : slice_get (change i g ks) i ≡ Some k = subst (λ (n : ℕ). slice_get (change i g ks) n ≡ Some k) (sym same) stack in
          let own_level : slice_get (change i h ls) i ≡ Some l = subst (λ (n : ℕ). slice_get (change i h ls) n ≡ Some l) (sym same) level in
          let x = changed_from st (slice_get ts i) t (sym (change_here i st ts) ∙ own_status) in
          let y = changed_from g (slice_get ks i) k (sym (change_here i g ks) ∙ own_stack) in
          let z = changed_from h (slice_get ls i) l (sym (change_here i h ls) ∙ own_level) in
          let here = changed x.before y.before z.before x.at y.at z.at (all i x.before y.before z.before x.at y.at z.at) in
          subst (λ (u : Levels). IsSoundStack a t k u) z.is (subst (λ (u : Stacked). IsSoundStack a t u (h z.before)) y.is (subst (λ (u : Status). IsSoundStack a u (g y.before) (h z.before)) x.is here))

-- ---- the top frame

-- the frames of an invocation with a stack
pub frames_are : (s : State) (i : ℕ) (k : Stacked) → slice_get s.stacks i ≡ Some k → frames_of s i ≡ k.frames
frames_are s i k at = ap (λ (o : Option Stacked). option_map_or (λ (x : Stacked). x.frames) o []) at

-- a frame of a changed stack is the changed top frame, or one as before
pub record FrameOf (g : Frame → Frame) (fs : List Frame) (depth : ℕ) (f : Frame) : Type 0 where
  pub before : Frame
  pub at : slice_get fs depth ≡ Some before
  pub is : ((depth ≡ length fs - 1) × (f ≡ g before)) ⊎ ((depth ≢ length fs - 1) × (f ≡ before))

pub frame_of : (g : Frame → Frame) (fs : List Frame) (depth : ℕ) (f : Frame) → slice_get (on_top g fs) depth ≡ Some f → FrameOf g fs depth f
frame_of g fs depth f at = by_depth (cases_eq (length fs - 1) depth)
  where
    by_depth : (length fs - 1 ≡ depth) ⊎ (length fs - 1 ≡ depth → ⊥) → FrameOf g fs depth f
    by_depth (inr apart) = record { before = f; at = sym (change_other (length fs - 1) depth g fs apart) ∙ at; is = inr (λ e. apart (sym e), refl) }
    by_depth (inl same) =
        let own : slice_get (change (length fs - 1) g fs) (length fs - 1) ≡ Some f = subst (λ (m : ℕ). slice_get (change (length fs - 1) g fs) m ≡ Some f) (sym same) at in
        let was = changed_from g (slice_get fs (length fs - 1)) f (sym (change_here (length fs - 1) g fs) ∙ own) in
        record { before = was.before; at = subst (λ (m : ℕ). slice_get fs m ≡ Some was.before) same was.at; is = inl (sym same, sym was.is) }

no_frames : (g : Frame → Frame) (fs : List Frame) → on_top g fs ≡ [] → fs ≡ []
no_frames g fs none = nothing fs (let e = ap length none in let l = length_change (length fs - 1) g fs in omega arith)
  where
    nothing : (xs : List Frame) → length xs ≡ 0 → xs ≡ []
    nothing [] e = refl
    nothing (x ∷ xs) e = absurd (omega arith)

frames_stay : (g : Frame → Frame) (fs : List Frame) → fs ≡ [] → on_top g fs ≡ []
frames_stay g fs none = rw none refl

variables_stay : (a : Accepted) (g : Frame → Frame) (n : ℕ) (fs : List Frame) (ls : List Roots) → ((f : Frame) → (g f).plan ≡ f.plan) → AllZip (HasVariables a) fs ls → AllZip (HasVariables a) (change n g fs) ls
variables_stay a g n [] [] plan h = h
variables_stay a g n [] (l ∷ ls) plan h = h
variables_stay a g n (f ∷ fs) [] plan h = absurd h
variables_stay a g zero (f ∷ fs) (l ∷ ls) plan h = (subst (λ (p : Planned). HasVariables a (record f { plan = p }) l) (sym (plan f)) h.0, h.1)
variables_stay a g (suc n) (f ∷ fs) (l ∷ ls) plan h = (h.0, variables_stay a g n fs ls plan h.1)

module _ (a : Accepted) (t u : Status) (k : Stacked) (l : Levels) (g : Frame → Frame) (plan : (f : Frame) → (g f).plan ≡ f.plan) where
  function_stays : (depth : ℕ) (f : Frame) (was : FrameOf g k.frames depth f) → f.plan.function ≡ was.before.plan.function
  function_stays depth f was = by_is was.is
    where
      by_is : ((depth ≡ length k.frames - 1) × (f ≡ g was.before)) ⊎ ((depth ≢ length k.frames - 1) × (f ≡ was.before)) → f.plan.function ≡ was.before.plan.function
      by_is (inl here) = ap (λ (x : Frame). x.plan.function) here.1 ∙ ap (λ (p : Planned). p.function) (plan was.before)
      by_is (inr old) = ap (λ (x : Frame). x.plan.function) old.1

  -- the frame below another one is as before
  below_stays : (depth : ℕ) (f : Frame) (was : FrameOf g k.frames depth f) (other : Frame) → slice_get k.frames (suc depth) ≡ Some other → f ≡ was.before
  below_stays depth f was other above = by_is was.is
    where
      by_is : ((depth ≡ length k.frames - 1) × (f ≡ g was.before)) ⊎ ((depth ≢ length k.frames - 1) × (f ≡ was.before)) → f ≡ was.before
      by_is (inr old) = old.1
      by_is (inl here) = let within = slice_get_within k.frames (suc depth) other above in let e = here.0 in absurd (omega arith)

  pub top_kept : IsSoundStack a t k l → ((u ≡ Finished) ↔ (t ≡ Finished)) → ((f : Frame) → top k.frames ≡ Some f → IsSoundFrame a f → IsSoundFrame a (g f))
      → ((f : Frame) → top k.frames ≡ Some f → IsRooted a k.frames (length k.frames - 1) f → IsRooted a k.frames (length k.frames - 1) (g f))
      → ((f : Frame) → top k.frames ≡ Some f → StandsAs a t f → StandsAs a u (g f)) → IsSoundStack a u (on_frames g k) l
  top_kept s same sound roots waits = record {
    room = s.room;
    levels = s.levels;
    finished = (λ e. frames_stay g k.frames (s.finished.0 (same.0 e)), λ e. same.1 (s.finished.1 (no_frames g k.frames e)));
    frames = λ depth f at. each depth f (frame_of g k.frames depth f at);
    variables = variables_stay a g (length k.frames - 1) k.frames l.list plan s.variables;
    first = λ f at. let was = frame_of g k.frames 0 f at in function_stays 0 f was ∙ s.first was.before was.at;
    calls = λ depth f other at above. called depth f other (frame_of g k.frames depth f at) (frame_of g k.frames (suc depth) other above);
    waits = λ f at. waiting f (frame_of g k.frames (length (on_top g k.frames) - 1) f at);
    rooted = λ depth f at. rooted depth f (frame_of g k.frames depth f at);
  } where
    last : length (on_top g k.frames) - 1 ≡ length k.frames - 1
    last = ap (λ (n : ℕ). n - 1) (length_change (length k.frames - 1) g k.frames)

    each : (depth : ℕ) (f : Frame) → FrameOf g k.frames depth f → IsSoundFrame a f
    each depth f was = by_is was.is
      where
        by_is : ((depth ≡ length k.frames - 1) × (f ≡ g was.before)) ⊎ ((depth ≢ length k.frames - 1) × (f ≡ was.before)) → IsSoundFrame a f
        by_is (inr old) = subst (IsSoundFrame a) (sym old.1) (s.frames depth was.before was.at)
        by_is (inl here) =
            let own : top k.frames ≡ Some was.before = subst (λ (n : ℕ). slice_get k.frames n ≡ Some was.before) here.0 was.at in
            subst (IsSoundFrame a) (sym here.1) (sound was.before own (s.frames depth was.before was.at))

    rooted : (depth : ℕ) (f : Frame) → FrameOf g k.frames depth f → IsRooted a (on_top g k.frames) depth f
    rooted depth f was = rooted_stays a k.frames (on_top g k.frames) depth f (λ n le. ids_changed a g (length k.frames - 1) n k.frames plan) (by_is was.is)
      where
        by_is : ((depth ≡ length k.frames - 1) × (f ≡ g was.before)) ⊎ ((depth ≢ length k.frames - 1) × (f ≡ was.before)) → IsRooted a k.frames depth f
        by_is (inr old) = subst (IsRooted a k.frames depth) (sym old.1) (s.rooted depth was.before was.at)
        by_is (inl here) =
            let own : top k.frames ≡ Some was.before = subst (λ (n : ℕ). slice_get k.frames n ≡ Some was.before) here.0 was.at in
            subst (λ (n : ℕ). IsRooted a k.frames n f) (sym here.0) (subst (IsRooted a k.frames (length k.frames - 1)) (sym here.1) (roots was.before own (s.rooted (length k.frames - 1) was.before own)))

    called : (depth : ℕ) (f other : Frame) → FrameOf g k.frames depth f → FrameOf g k.frames (suc depth) other → IsCallOf a f.pc other.plan.function
    called depth f other was above =
        let call = s.calls depth was.before above.before was.at above.at in
        let own : f ≡ was.before = below_stays depth f was above.before above.at in
        subst (λ (n : ℕ). IsCallOf a f.pc n) (sym (function_stays (suc depth) other above)) (subst (λ (x : Frame). IsCallOf a x.pc above.before.plan.function) (sym own) call)

    waiting : (f : Frame) → FrameOf g k.frames (length (on_top g k.frames) - 1) f → StandsAs a u f
    waiting f was = by_is was.is
      where
        own : top k.frames ≡ Some was.before
        own = subst (λ (n : ℕ). slice_get k.frames n ≡ Some was.before) last was.at

        by_is : ((length (on_top g k.frames) - 1 ≡ length k.frames - 1) × (f ≡ g was.before)) ⊎ ((length (on_top g k.frames) - 1 ≢ length k.frames - 1) × (f ≡ was.before)) → StandsAs a u f
        by_is (inr apart) = absurd (apart.0 last)
        by_is (inl here) = subst (StandsAs a u) (sym here.1) (waits was.before own (s.waits was.before own))
