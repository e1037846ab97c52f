-- What copies of memory do.
use Rattle.std.proofs.Common.{◌≡◌, ◌∙◌, ℕ, true, Option, Some, None, IsSome, Result, Ok, Err, ok_or, refl, sym, ap, subst}
use Rattle.std.proofs.Math.Logic.{∥∥₁_elim}
use Rattle.std.proofs.Props.{props}
use Rattle.spv_base.specs.declared.values.Pointer.{Pointer as Reference}
use Rattle.spv_base.specs.declared.values.Value.{Value}
use Rattle.spv_ops.specs.Steps.{◌>>=◌}
use Rattle.spv_types.specs.Laws.{AreSound}
use Rattle.spv_types.specs.Rows.{no_roots}
use Rattle.spv_types.specs.Shapes.{HasShape, LeadsTo}
use Rattle.spv_bodies.specs.Memory.{KeepsCopyMemory}
use Rattle.spv_mem.specs.Memory.{IsMemory, load_of}
use Rattle.spv_mem.specs.Targets.{is_counted}
use Rattle.spv_valid.specs.Validity.{IsValid}
use Rattle.spv_operands.proofs.Exports.{sized_counted}
use Rattle.spv_results.specs.Operands.{known}
use Rattle.spv_results.proofs.Exports.{shape_prop}
use Rattle.spv_state.specs.Actions.{action_of}
use Rattle.spv_state.specs.declared.actions.Action.TheVariants.{CopyMemory}
use Rattle.spv_sites.specs.Effects as spec
use Rattle.spv_sites.specs.Effects.{loaded, pointer}
use Rattle.spv_sites.specs.Fits.{StoreFits}
use Rattle.spv_sites.specs.Sites.{IsShaped, IsSite, Site, accepted, due, part_of, values}
use Rattle.spv_sites.specs.declared.causes.Cause.{Cause}
use Rattle.spv_sites.specs.declared.causes.Cause.TheVariants.{NoValue}
use Rattle.spv_accesses.proofs.AccessLemmas.{found, in_turn, leads_there, may_put, part_shape, stores, targets_are, type_in, types_are}
use Rattle.spv_sites.proofs.Exports.{due_by}

-- ---- what is due

-- the value of the source's part for the part that a pointer names
abbrev from_source : Site → Value → Reference → Result spec.Effect Cause
from_source x from q = part_of x from >>= (λ (v : Value). Ok (stores q v))

abbrev by_target : Site → Value → Value → Result Reference Cause → Result spec.Effect Cause
by_target x to from r = r >>= (λ (q : Reference). loaded x.state x.inv q >>= (λ (_ : Value). from_source x from q))

abbrev copy_from : Site → Option Value → Option Value → Result spec.Effect Cause
copy_from x o p = ok_or o NoValue >>= (λ (to : Value). ok_or p NoValue >>= (λ (from : Value). by_target x to from (pointer to)))

copy_due : (x : Site) → action_of x.inst ≡ CopyMemory → due x ≡ copy_from x (values x 0) (values x 1)
copy_due x is = due_by x CopyMemory is ∙ by_first (values x 0)
  where
    by_place : (from : Value) (r : Result Reference Cause)
        → (r >>= (λ (q : Reference). loaded x.state x.inv q >>= (λ (_ : Value). pointer from >>= (λ (p : Reference). loaded x.state x.inv p >>= (λ (v : Value). Ok (stores q v))))))
        ≡ (r >>= (λ (q : Reference). loaded x.state x.inv q >>= (λ (_ : Value). from_source x from q)))
    by_place from (Err cause) = refl
    by_place from (Ok q) = ap (λ (r : Result spec.Effect Cause). loaded x.state x.inv q >>= (λ (_ : Value). r)) (sym (in_turn (pointer from) (loaded x.state x.inv) (λ (v : Value). Ok (stores q v))))

    by_second : (to : Value) (p : Option Value)
        → (ok_or p NoValue >>= (λ (from : Value). pointer to >>= (λ (q : Reference). loaded x.state x.inv q >>= (λ (_ : Value). pointer from >>= (λ (r : Reference). loaded x.state x.inv r >>= (λ (v : Value). Ok (stores q v)))))))
        ≡ (ok_or p NoValue >>= (λ (from : Value). by_target x to from (pointer to)))
    by_second to None = refl
    by_second to (Some from) = by_place from (pointer to)

    by_first : (o : Option Value)
        → (ok_or o NoValue >>= (λ (to : Value). ok_or (values x 1) NoValue >>= (λ (from : Value). pointer to >>= (λ (q : Reference). loaded x.state x.inv q >>= (λ (_ : Value). pointer from >>= (λ (r : Reference). loaded x.state x.inv r >>= (λ (v : Value). Ok (stores q v))))))))
        ≡ copy_from x o (values x 1)
    by_first None = refl
    by_first (Some to) = by_second to (values x 1)

copy_by : (x : Site) (to from : Value) → action_of x.inst ≡ CopyMemory → values x 0 ≡ Some to → values x 1 ≡ Some from → due x ≡ by_target x to from (pointer to)
copy_by x to from is first second = copy_due x is ∙ ap (λ (o : Option Value). copy_from x o (values x 1)) first ∙ ap (copy_from x (Some to)) second

pub copy_missing : (x : Site) → action_of x.inst ≡ CopyMemory → values x 0 ≡ None → due x ≡ Err NoValue
copy_missing x is none = copy_due x is ∙ ap (λ (o : Option Value). copy_from x o (values x 1)) none

pub copy_without : (x : Site) (to : Value) → action_of x.inst ≡ CopyMemory → values x 0 ≡ Some to → values x 1 ≡ None → due x ≡ Err NoValue
copy_without x to is first none = copy_due x is ∙ ap (λ (o : Option Value). copy_from x o (values x 1)) first ∙ ap (copy_from x (Some to)) none

-- the target names no part
pub copy_nowhere : (x : Site) (to from : Value) (cause : Cause) → action_of x.inst ≡ CopyMemory → values x 0 ≡ Some to → values x 1 ≡ Some from → part_of x to ≡ Err cause → due x ≡ Err cause
copy_nowhere x to from cause is first second outside = copy_by x to from is first second ∙ by_place (pointer to) outside
  where
    by_place : (r : Result Reference Cause) → (r >>= loaded x.state x.inv) ≡ Err cause → by_target x to from r ≡ Err cause
    by_place (Ok q) e = ap (λ (r : Result Value Cause). r >>= (λ (_ : Value). from_source x from q)) e
    by_place (Err other) e = let same : other ≡ cause = cc in ap (λ (k : Cause). Err k) same

-- where the target names one, the source is read
copy_there : (x : Site) (to from u : Value) (q : Reference) → action_of x.inst ≡ CopyMemory → values x 0 ≡ Some to → values x 1 ≡ Some from → pointer to ≡ Ok q → part_of x to ≡ Ok u → due x ≡ from_source x from q
copy_there x to from u q is first second place part =
    let there : loaded x.state x.inv q ≡ Ok u = sym (ap (λ (r : Result Reference Cause). r >>= loaded x.state x.inv) place) ∙ part in
    copy_by x to from is first second ∙ ap (by_target x to from) place ∙ ap (λ (r : Result Value Cause). r >>= (λ (_ : Value). from_source x from q)) there

-- the source names no part
pub copy_outside : (x : Site) (to from u : Value) (cause : Cause) → action_of x.inst ≡ CopyMemory → values x 0 ≡ Some to → values x 1 ≡ Some from → part_of x to ≡ Ok u → part_of x from ≡ Err cause → due x ≡ Err cause
copy_outside x to from u cause is first second part outside =
    let there = found x to u part in
    copy_there x to from u there.place is first second there.is part ∙ ap (λ (r : Result Value Cause). r >>= (λ (v : Value). Ok (stores there.place v))) outside

pub copy_gives : (x : Site) (to from u v : Value) (q : Reference) → action_of x.inst ≡ CopyMemory → values x 0 ≡ Some to → values x 1 ≡ Some from → part_of x to ≡ Ok u → part_of x from ≡ Ok v → pointer to ≡ Ok q → due x ≡ Ok (stores q v)
copy_gives x to from u v q is first second part source place =
    copy_there x to from u q is first second place part ∙ ap (λ (r : Result Value Cause). r >>= (λ (v : Value). Ok (stores q v))) source

-- ---- what it fits

module _ (x : Site) (sound : AreSound (accepted x).types) (valid : ∥ IsValid (accepted x) ∥₁) (site : ∥ IsSite x ∥₁) (kept : KeepsCopyMemory (known (accepted x)) x.inst)
    (to from : Value) (target : IsShaped (accepted x) x.inst 0 to) (source : IsShaped (accepted x) x.inst 1 from) where
  -- the source's part has the target's type
  source_shape : (v : Value) → ∥ IsMemory x.state.memory ∥₁ → part_of x from ≡ Ok v → HasShape (accepted x).types no_roots kept.0.target v
  source_shape v memory part =
      let there = found x from v part in
      let leads : LeadsTo (accepted x).types (type_in (accepted x)) there.place kept.2.0.target = leads_there (accepted x) sound x.inst 1 from source kept.2.0 kept.2.1 there.place there.is in
      subst (λ (ty : ℕ). HasShape (accepted x).types no_roots ty v) kept.2.2.0
      (∥∥₁_elim memory (shape_prop (accepted x).types no_roots kept.2.0.target v) (λ (m : IsMemory x.state.memory).
      part_shape x.state.memory (accepted x) (types_are x site) (targets_are x site) there.place kept.2.0.target leads x.inv v m there.there))

  pub copy_fits : (u v : Value) (q : Reference) → ∥ IsMemory x.state.memory ∥₁ → part_of x to ≡ Ok u → part_of x from ≡ Ok v → pointer to ≡ Ok q → StoreFits x.state x.inv (Some (q, v))
  copy_fits u v q memory part copied place =
      let there = found x to u part in
      let same : there.place ≡ q = let is = there.is in cc in
      let leads : LeadsTo (accepted x).types (type_in (accepted x)) q kept.0.target = leads_there (accepted x) sound x.inst 0 to target kept.0 kept.1 q place in
      let counted : is_counted (accepted x).types kept.0.target ≡ true
      = ∥∥₁_elim valid (hlevel props) (λ (is : IsValid (accepted x)). sized_counted (accepted x).types sound is.lengths kept.0.target kept.2.2.1.1) in
      let loads : load_of x.state.memory x.inv q ≡ Some u = ap (load_of x.state.memory x.inv) (sym same) ∙ there.there in (
        subst (λ (o : Option Value). IsSome o) (sym loads) refl,
        ∣ may_put x.state.memory (accepted x) (types_are x site) (targets_are x site) q kept.0.target leads x.inv v counted (source_shape v memory copied) ∣₁,
      )
