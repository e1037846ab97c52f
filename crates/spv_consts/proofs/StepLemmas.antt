-- What one more type counts as, and one instruction after another.
use Rattle.std.proofs.Common.{◌≡◌, ◌⊎◌, ◌∙◌, ℕ, ◌+◌, ◌<◌, ◌≤◌, List, [], ◌∷◌, ◌++◌, length, get_or, drop, drop-cons, drop_of_length-le, add-one, length-append, Some, None, Result, Ok, Err, inl, inr, refl, ap, arith}
use Rattle.std.proofs.Math.ListN.{get_or-append}
use Rattle.std.proofs.Math.Seq.{get_or-append_seam}
use Rattle.std.proofs.lemmas.Bool.{cases_lt}
use Rattle.spv_base.specs.Answers.{Answers}
use Rattle.spv_base.specs.declared.causes.Fail.{Fail}
use Rattle.spv_base.specs.declared.causes.Fail.TheVariants.{Refused, NoMemory}
use Rattle.spv_base.specs.declared.causes.Refusal.{Refusal}
use Rattle.spv_base.specs.declared.instructions.Inst.{Inst}
use Rattle.spv_types.specs.declared.forms.Form.{Form}
use Rattle.spv_types.specs.declared.forms.Form.TheVariants.{Void}
use Rattle.spv_types.specs.declared.limits.Limit.{Limit}
use Rattle.spv_types.specs.Types.{Types, form_at, form_of, number_of}
use Rattle.spv_types.specs.Limits.{AreLimits, limit_among, limit_step, no_limit}
use Rattle.spv_types.proofs.Exports.{number_form}
use Rattle.spv_consts.specs.Context.{Context}
use Rattle.spv_consts.specs.State.{State}
use Rattle.spv_types.specs.Build.{unless_refused}
use Rattle.spv_consts.specs.Steps.{breaches_at, breaches_from, after_one, after_all}

-- the type that comes next has a form
pub form_next : (ts : Types) (id n : ℕ) → number_of ts id ≡ Some n → None ≡ form_of ts id → ⊥
form_next ts id n h e = let f = number_form ts id n (0, Void) h in cc

-- and one more limit is that of its form
pub limits_more : (ts : Types) (limits now : List Limit) (limit : Limit) (id n : ℕ) (f : Form) → AreLimits ts limits → n ≡ length limits → number_of ts id ≡ Some n → Some f ≡ form_of ts id
    → limit ≡ limit_step (limit_among ts (length limits)) f → now ≡ limits ++ limit ∷ [] → AreLimits ts now
limits_more ts limits now limit id n f a same h e l more = rw more (record { limits_are = λ m lt. at m lt (cases_lt m (length limits)) })
  where
    last : limit_step (limit_among ts (length limits)) f ≡ limit_step (limit_among ts (length limits)) (form_at ts (length limits))
    last =
        let g : form_of ts id ≡ Some (form_at ts (length limits)) = number_form ts id (length limits) (0, Void) (h ∙ ap Some same) in
        let k : f ≡ form_at ts (length limits) = cc in
        ap (limit_step (limit_among ts (length limits))) k

    at : (m : ℕ) → m < length (limits ++ limit ∷ []) → (m < length limits) ⊎ (length limits ≤ m) → get_or (limits ++ limit ∷ []) m no_limit ≡ limit_step (limit_among ts m) (form_at ts m)
    at m lt (inl less) = get_or-append limits (limit ∷ []) no_limit m less ∙ a.limits_are m less
    at m lt (inr more) =
        let e : m ≡ length limits = omega (arith, length-append limits (limit ∷ [])) in
        rw e (get_or-append_seam limits limit [] no_limit ∙ l ∙ last)

-- ---- one instruction after another

module _ (m : Context) where
  -- what comes of some instructions: their state, or the first breach
  abbrev pub Outcome : State → List Inst → Result State Refusal
  Outcome s is = unless_refused (after_all m s is) (breaches_from m s is)

  split : (s : State) (is : List Inst) (k : ℕ) (i : Inst) → k < length is → i ≡ get_or is k i
      → Outcome s (drop k is) ≡ unless_refused (after_all m (after_one m s i) (drop (k + 1) is)) (breaches_at m s i ++ breaches_from m (after_one m s i) (drop (k + 1) is))
  unfolding after_all breaches_from
  split s is k i l e = rw (drop-cons is k i l, ← e, add-one) refl

  pub walked_more : (s t : State) (is : List Inst) (k : ℕ) (i : Inst) (whole : Result State Refusal) → k < length is → i ≡ get_or is k i
      → unless_refused (after_one m s i) (breaches_at m s i) ≡ Ok t → whole ≡ Outcome s (drop k is) → whole ≡ Outcome t (drop (k + 1) is)
  walked_more s t is k i whole l e h g = g ∙ split s is k i l e ∙ by_breaches (breaches_at m s i) (after_one m s i) h
    where
      by_breaches : (rs : List Refusal) (u : State) → unless_refused u rs ≡ Ok t
          → unless_refused (after_all m u (drop (k + 1) is)) (rs ++ breaches_from m u (drop (k + 1) is)) ≡ Outcome t (drop (k + 1) is)
      by_breaches [] u h = let same : u ≡ t = cc in ap (λ v. Outcome v (drop (k + 1) is)) same
      by_breaches (r ∷ rs) u h = absurd (cc)

  pub walked_refused : (s : State) (is : List Inst) (k : ℕ) (i : Inst) (fail : Fail Refusal) (whole : Result State Refusal) → k < length is → i ≡ get_or is k i
      → Answers (unless_refused (after_one m s i) (breaches_at m s i)) (Err fail) → whole ≡ Outcome s (drop k is) → Answers whole (Err fail)
  walked_refused s is k i (Refused r) whole l e h g = g ∙ split s is k i l e ∙ by_breaches (breaches_at m s i) (after_one m s i) h
    where
      by_breaches : (rs : List Refusal) (u : State) → unless_refused u rs ≡ Err r
          → unless_refused (after_all m u (drop (k + 1) is)) (rs ++ breaches_from m u (drop (k + 1) is)) ≡ Err r
      by_breaches [] u h = absurd (cc)
      by_breaches (q ∷ rs) u h = h
  walked_refused s is k i NoMemory whole l e h g = tt

  pub walked_end : (s : State) (is : List Inst) (k : ℕ) (whole : Result State Refusal) → length is ≤ k → whole ≡ Outcome s (drop k is) → whole ≡ Ok s
  unfolding after_all breaches_from
  walked_end s is k whole l g = g ∙ rw (drop_of_length-le is l) refl
