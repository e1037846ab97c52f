-- The frame at an instruction that a run has come to is sound, and a run stops at the instruction.
use Rattle.std.proofs.Common.{◌≡◌, ◌∙◌, ◌-◌, true, false, [], length, slice_get, Option, Some, sym, ap, subst, arith}
use Rattle.std.proofs.Math.Logic.{∥∥₁_elim, ∥∥₁_map}
use Rattle.std.proofs.Props.{props}
use Rattle.std.specs.Option.{option_map_or}
use Rattle.spv_index.specs.Classes.{sets_of}
use Rattle.spv_valid.specs.Below.spv_types.specs.Rules.{has_runtime}
use Rattle.spv_valid.specs.Below.spv_bodies.specs.Bodies.{KeepsBody}
use Rattle.spv_valid.specs.Below.spv_bodies.specs.Memory.{KeepsLoad, KeepsStore}
use Rattle.spv_valid.specs.Acceptance.{Accepted, IsAccepted}
use Rattle.spv_valid.specs.Validity.{IsValid}
use Rattle.spv_frame.specs.Stacks.{Stacked, top}
use Rattle.spv_state.specs.Below.spv_results.specs.Computations.{computation_of}
use Rattle.spv_state.specs.Below.spv_results.specs.Operands.{known}
use Rattle.spv_state.specs.Below.spv_results.specs.declared.computations.Computation.{Computation}
use Rattle.spv_sites.specs.Effects.{Next}
use Rattle.spv_sites.specs.Fits.{ControlFits}
use Rattle.spv_sites.specs.Kept.{Keeps}
use Rattle.spv_sites.specs.Sites.{IsSite, Site, accepted}
use Rattle.spv_state.specs.Sound.{IsSoundFrame}
use Rattle.spv_sites.proofs.ComputationLemmas.{computed}
use Rattle.spv_sites.proofs.ComputationRules.{computed_plain, is_plain_code, keeps, keeps_load, keeps_store, load_plain, plain_open, plain_own, store_plain}
use Rattle.spv_sites.proofs.RunLemmas.{RulesAreTested, Runs, alone, is_run, rule_kept, runs_on, runs_there}
use Rattle.spv_base.proofs.Exports.{element_at}

pub frame_sound : (x : Site) → IsSite x → IsSoundFrame (accepted x) x.frame
frame_sound x is =
    let status = element_at x.state.statuses.list x.inv (let same = is.sound.stacks in let lt = is.inside in omega arith) in
    let stack = element_at x.state.stacks x.inv is.inside in
    let levels = element_at x.state.memory.locals x.inv (let one = is.sound.levels in let same = is.sound.stacks in let lt = is.inside in omega arith) in
    let sound = is.sound.each x.inv status.0 stack.0 levels.0 status.1 stack.1 levels.1 in
    let frames : option_map_or (λ (k : Stacked). k.frames) (slice_get x.state.stacks x.inv) [] ≡ stack.0.frames = ap (λ (o : Option Stacked). option_map_or (λ (k : Stacked). k.frames) o []) stack.1 in
    let here : top stack.0.frames ≡ Some x.frame = ap top (sym frames) ∙ is.top in
    sound.frames (length stack.0.frames - 1) x.frame here

pub site_runs : (x : Site) → ∥ IsAccepted (accepted x) ∥₁ → ∥ IsValid (accepted x) ∥₁ → ∥ IsSite x ∥₁ → ∥ Runs (accepted x) x.inst ∥₁
site_runs x accepts valid site =
    ∥∥₁_elim accepts (hlevel props) (λ (h : IsAccepted (accepted x)).
    ∥∥₁_elim valid (hlevel props) (λ (v : IsValid (accepted x)).
    ∥∥₁_map site (λ (is : IsSite x).
    let stands = (frame_sound x is).stands in
    runs_there (accepted x) h v x.frame.plan.function x.frame.pc stands.stand x.inst stands.among stands.here stands.stops is.stands)))

-- ---- what the instruction keeps, where the module that is read is the site's

module _ (law : RulesAreTested) (x : Site) (m : Accepted) (same : m ≡ accepted x) (accepts : ∥ IsAccepted m ∥₁) (valid : ∥ IsValid m ∥₁) (site : ∥ IsSite x ∥₁) where
  runs : ∥ Runs (accepted x) x.inst ∥₁
  runs = site_runs x (subst (λ (a : Accepted). ∥ IsAccepted a ∥₁) same accepts) (subst (λ (a : Accepted). ∥ IsValid a ∥₁) same valid) site

  pub body : is_plain_code x.inst.op ≡ true → KeepsBody (known (accepted x)) (alone x.inst)
  body plain = rule_kept law (accepted x) x.inst runs (plain_own x.inst.op plain)

  pub plain_next : is_plain_code x.inst.op ≡ true → ControlFits (accepted x) x.inst Next
  plain_next plain = runs_on (accepted x) x.inst runs (plain_open (sets_of (accepted x).insts) x.inst plain)

  pub computed_keeps : (c : Computation) → computation_of x.inst ≡ Some c → Keeps (accepted x) x.inst c
  computed_keeps c is =
      let own = computed x.inst c is in
      keeps (accepted x) x.inst (body (computed_plain x.inst c own)).1 c own (is_run (accepted x) x.inst runs)

  pub computed_sized : (c : Computation) → computation_of x.inst ≡ Some c → has_runtime (accepted x).types x.inst.ty ≡ false
  computed_sized c is = (body (computed_plain x.inst c (computed x.inst c is))).0

  pub computed_next : (c : Computation) → computation_of x.inst ≡ Some c → ControlFits (accepted x) x.inst Next
  computed_next c is = plain_next (computed_plain x.inst c (computed x.inst c is))

  pub load_keeps : x.inst.op ≡ 61 → KeepsLoad (known (accepted x)) x.inst
  load_keeps is = keeps_load (accepted x) x.inst (body (load_plain x.inst.op is)).1 is

  pub load_next : x.inst.op ≡ 61 → ControlFits (accepted x) x.inst Next
  load_next is = plain_next (load_plain x.inst.op is)

  pub store_keeps : x.inst.op ≡ 62 → KeepsStore (known (accepted x)) x.inst
  store_keeps is = keeps_store (accepted x) x.inst (body (store_plain x.inst.op is)).1 is

  pub store_next : x.inst.op ≡ 62 → ControlFits (accepted x) x.inst Next
  store_next is = plain_next (store_plain x.inst.op is)
