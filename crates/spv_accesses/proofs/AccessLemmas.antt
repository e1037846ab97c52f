-- What loads and stores do.
use Rattle.std.proofs.Common.{◌≡◌, ◌∙◌, ℕ, true, Option, Some, None, IsSome, Result, Ok, Err, ok_or, refl, sym, ap, subst}
use Rattle.std.proofs.Math.Logic.{∥∥₁_elim}
use Rattle.std.proofs.Props.{props}
use Rattle.std.specs.Coded.{codes}
use Rattle.std.specs.Option.{option_and_then}
use Rattle.spv_base.specs.Entries.{reads}
use Rattle.spv_base.specs.Parts.{part_at}
use Rattle.spv_base.specs.Variables.{Roots, root_id}
use Rattle.spv_base.specs.declared.instructions.Inst.{Inst}
use Rattle.spv_base.specs.declared.values.Pointer.{Pointer as Reference}
use Rattle.spv_base.specs.declared.values.Root.{Root}
use Rattle.spv_base.specs.declared.values.Value.{Value}
use Rattle.spv_ops.specs.Steps.{◌>>=◌}
use Rattle.spv_types.specs.declared.forms.Form.TheVariants.{Pointer as PointerForm}
use Rattle.spv_types.specs.declared.queries.Pointed.{Pointed}
use Rattle.spv_types.specs.Laws.{AreSound}
use Rattle.spv_types.specs.Rows.{no_roots}
use Rattle.spv_types.specs.Shapes.{HasShape, LeadsTo, reached_type}
use Rattle.spv_types.specs.Queries.{pointee}
use Rattle.spv_types.specs.Types.{Types, form_of}
use Rattle.spv_types.proofs.Exports.{shapes_keep}
use Rattle.spv_bodies.specs.Context.{PointsTo, type_at}
use Rattle.spv_bodies.specs.Memory.{KeepsLoad, KeepsStore}
use Rattle.spv_mem.specs.Memory.{Held as Memory, IsMemory, MayStore, load_of, roots_in}
use Rattle.spv_mem.specs.Targets.{is_counted}
use Rattle.spv_valid.specs.Acceptance.{Accepted}
use Rattle.spv_valid.specs.Validity.{IsValid}
use Rattle.spv_initial.specs.Start.{variables}
use Rattle.spv_initial.specs.Variables.{targets_of}
use Rattle.spv_operands.specs.Shapes.{target_in}
use Rattle.spv_operands.proofs.Exports.{sized_counted, target_parts, target_same}
use Rattle.spv_results.specs.Operands.{IsOperand, IsResult, known}
use Rattle.spv_results.proofs.Exports.{HasForm, form_has_type, shape_prop}
use Rattle.spv_state.specs.Actions.{action_of}
use Rattle.spv_sites.specs.Effects as spec
use Rattle.spv_sites.specs.Effects.{Next, gives, loaded, pointer}
use Rattle.spv_sites.specs.Fits.{StoreFits}
use Rattle.spv_sites.specs.Sites.{IsShaped, IsSite, Site, accepted, due, part_of, values}
use Rattle.spv_state.specs.declared.actions.Action.TheVariants.{Load, Store}
use Rattle.spv_sites.specs.declared.causes.Cause.{Cause}
use Rattle.spv_sites.specs.declared.causes.Cause.TheVariants.{NoValue, OutOfBounds}
use Rattle.spv_sites.specs.declared.effects.Effect.{Effect}
use Rattle.spv_sites.proofs.Exports.{due_by, Leads, pointed, reference_shape}

-- ---- steps that may fault

module _ {A B C : Type 0} where
  pub in_turn : (r : Result A Cause) (f : A → Result B Cause) (g : B → Result C Cause) → ((r >>= f) >>= g) ≡ (r >>= (λ x. f x >>= g))
  in_turn (Ok x) f g = refl
  in_turn (Err cause) f g = refl

-- ---- OpLoad

abbrev load_from : Site → Option Value → Result spec.Effect Cause
load_from x o = ok_or o NoValue >>= (λ (at : Value). part_of x at >>= (λ (v : Value). Ok (gives v)))

load_steps : (x : Site) (o : Option Value) → (ok_or o NoValue >>= (λ (at : Value). pointer at >>= (λ (q : Reference). loaded x.state x.inv q >>= (λ (v : Value). Ok (gives v))))) ≡ load_from x o
load_steps x None = refl
load_steps x (Some at) = sym (in_turn (pointer at) (loaded x.state x.inv) (λ (v : Value). Ok (gives v)))

pub load_due : (x : Site) → action_of x.inst ≡ Load → due x ≡ load_from x (values x 0)
load_due x is = due_by x Load is ∙ load_steps x (values x 0)

pub load_gives : (x : Site) (at v : Value) → action_of x.inst ≡ Load → values x 0 ≡ Some at → part_of x at ≡ Ok v → due x ≡ Ok (gives v)
load_gives x at v is value part = load_due x is ∙ ap (load_from x) value ∙ ap (λ (r : Result Value Cause). r >>= (λ (v : Value). Ok (gives v))) part

-- ---- OpStore

abbrev pub stores : Reference → Value → spec.Effect
stores q v = record { store = Some (q, v); result = None; control = Next }

abbrev store_from : Site → Option Value → Option Value → Result spec.Effect Cause
store_from x o p =
    ok_or o NoValue >>= (λ (at : Value). ok_or p NoValue >>= (λ (v : Value). pointer at >>= (λ (q : Reference). loaded x.state x.inv q >>= (λ (_ : Value). Ok (stores q v)))))

pub store_due : (x : Site) → action_of x.inst ≡ Store → due x ≡ store_from x (values x 0) (values x 1)
store_due x is = due_by x Store is

pub store_gives : (x : Site) (at v u : Value) (q : Reference) → action_of x.inst ≡ Store → values x 0 ≡ Some at → values x 1 ≡ Some v → pointer at ≡ Ok q → part_of x at ≡ Ok u → due x ≡ Ok (stores q v)
store_gives x at v u q is first second place part =
    let there : loaded x.state x.inv q ≡ Ok u = sym (ap (λ (r : Result Reference Cause). r >>= loaded x.state x.inv) place) ∙ part in
    store_due x is ∙ ap (λ (o : Option Value). store_from x o (values x 1)) first ∙ ap (store_from x (Some at)) second
    ∙ ap (λ (r : Result Reference Cause). r >>= (λ (p : Reference). loaded x.state x.inv p >>= (λ (_ : Value). Ok (stores p v)))) place
    ∙ ap (λ (r : Result Value Cause). r >>= (λ (_ : Value). Ok (stores q v))) there

-- ---- faults

pub load_missing : (x : Site) → action_of x.inst ≡ Load → values x 0 ≡ None → due x ≡ Err NoValue
load_missing x is none = load_due x is ∙ ap (load_from x) none

pub load_outside : (x : Site) (at : Value) (cause : Cause) → action_of x.inst ≡ Load → values x 0 ≡ Some at → part_of x at ≡ Err cause → due x ≡ Err cause
load_outside x at cause is value part = load_due x is ∙ ap (load_from x) value ∙ ap (λ (r : Result Value Cause). r >>= (λ (v : Value). Ok (gives v))) part

pub store_missing : (x : Site) → action_of x.inst ≡ Store → values x 0 ≡ None → due x ≡ Err NoValue
store_missing x is none = store_due x is ∙ ap (λ (o : Option Value). store_from x o (values x 1)) none

pub store_without : (x : Site) (at : Value) → action_of x.inst ≡ Store → values x 0 ≡ Some at → values x 1 ≡ None → due x ≡ Err NoValue
store_without x at is first none = store_due x is ∙ ap (λ (o : Option Value). store_from x o (values x 1)) first ∙ ap (store_from x (Some at)) none

pub store_outside : (x : Site) (at v : Value) (cause : Cause) → action_of x.inst ≡ Store → values x 0 ≡ Some at → values x 1 ≡ Some v → part_of x at ≡ Err cause → due x ≡ Err cause
store_outside x at v cause is first second part =
    store_due x is ∙ ap (λ (o : Option Value). store_from x o (values x 1)) first ∙ ap (store_from x (Some at)) second ∙ by_place (pointer at) part
  where
    by_place : (r : Result Reference Cause) → (r >>= loaded x.state x.inv) ≡ Err cause → (r >>= (λ (q : Reference). loaded x.state x.inv q >>= (λ (_ : Value). Ok (stores q v)))) ≡ Err cause
    by_place (Ok q) e = ap (λ (r : Result Value Cause). r >>= (λ (_ : Value). Ok (stores q v))) e
    by_place (Err other) e = let same : other ≡ cause = cc in ap (λ (k : Cause). Err k) same

-- ---- what they fit

-- the type of the value of the variable that a root names
abbrev pub type_in : Accepted → Root → Option ℕ
type_in a r = reads (root_id r) (targets_of (variables a))

-- a pointer that leads to a target in a variable of the storage class of its type leads there by the type of the variable
pub unclassed : (a : Accepted) (ty target : ℕ) (q : Reference) → LeadsTo a.types (target_in a ty) q target → LeadsTo a.types (type_in a) q target
unclassed a ty target q leads = by_type (target_in a ty q.root) refl leads
  where
    by_type : (o : Option ℕ) → target_in a ty q.root ≡ o → option_and_then (λ (t : ℕ). reached_type a.types t q.path) o ≡ Some target → LeadsTo a.types (type_in a) q target
    by_type None e h = absurd (cc)
    by_type (Some t) e h = let named = target_parts a ty q.root t e in ap (option_and_then (λ (u : ℕ). reached_type a.types u q.path)) named.target ∙ h

-- where the pointer leads that an operand is
module _ (a : Accepted) (sound : AreSound a.types) (d : Inst) (n : ℕ) (at : Value) (shaped : IsShaped a d n at) (p : Pointed) (points : PointsTo (known a) d n p) where
  form : HasForm a.types (type_at (known a) d n) (PointerForm p.class p.target)
  form = form_has_type a.types (type_at (known a) d n) (PointerForm p.class p.target) points

  leads : Leads a.types (target_in a form.type) p.target at
  leads = pointed a.types (target_in a form.type) form.type p.class p.target at sound form.form (reference_shape a d n form.type p.class p.target at shaped form.is form.form)

  leads_by_type : (q : Reference) → pointer at ≡ Ok q → LeadsTo a.types (target_in a form.type) q p.target
  leads_by_type q place =
      let is : pointer at ≡ Ok leads.place = ap (λ (o : Option Reference). ok_or o OutOfBounds) leads.is in
      let same : leads.place ≡ q = cc in
      subst (λ (r : Reference). LeadsTo a.types (target_in a form.type) r p.target) same leads.leads

  pub leads_there : (q : Reference) → pointer at ≡ Ok q → LeadsTo a.types (type_in a) q p.target
  leads_there q place = unclassed a form.type p.target q (leads_by_type q place)

  -- in a variable that pointers of a type of the same storage class may lead to
  pub leads_in_class : (ty : ℕ) (other : Pointed) → pointee (form_of a.types ty) ≡ Some other → other.class ≡ p.class → (q : Reference) → pointer at ≡ Ok q → LeadsTo a.types (target_in a ty) q p.target
  leads_in_class ty other type class q place =
      let own : pointee (form_of a.types form.type) ≡ Some p = ap pointee form.form in
      subst (λ (roots : Root → Option ℕ). LeadsTo a.types roots q p.target) (target_same a form.type ty p other own type (sym class)) (leads_by_type q place)

-- the type of a variable, and that which a path reaches from it
module _ (m : Memory) (a : Accepted) (types : m.types ≡ a.types) (targets : m.targets ≡ targets_of (variables a)) (q : Reference) (target : ℕ) (leads : LeadsTo a.types (type_in a) q target) where
  pub reaches : (ty : ℕ) → reads (root_id q.root) m.targets ≡ Some ty → reached_type m.types ty q.path ≡ Some target
  reaches ty named =
      let same : type_in a q.root ≡ Some ty = ap (reads (root_id q.root)) (sym targets) ∙ named in
      ap (λ (ts : Types). reached_type ts ty q.path) types ∙ sym (ap (option_and_then (λ (t : ℕ). reached_type a.types t q.path)) same) ∙ leads

  -- the part that a memory has there is one of the target type
  pub part_shape : (i : ℕ) (v : Value) → IsMemory m → load_of m i q ≡ Some v → HasShape a.types no_roots target v
  part_shape i v memory load = by_roots (roots_in m i q.root) refl load
    where
      by_value : (es : Roots) → roots_in m i q.root ≡ Some es → (o : Option Value) → reads (root_id q.root) es ≡ o → option_and_then (λ (w : Value). part_at w q.path) o ≡ Some v → HasShape a.types no_roots target v
      by_value es there None e h = absurd (cc)
      by_value es there (Some w) e h =
          let variable = memory.variables i q.root es there (root_id q.root) w e in
          let shape : HasShape m.types no_roots target v = (shapes_keep m.types no_roots memory.sound q.path variable.type target w v v variable.shape (reaches variable.type variable.named) h).0 in
          subst (λ (ts : Types). HasShape ts no_roots target v) types shape

      by_roots : (o : Option Roots) → roots_in m i q.root ≡ o → option_and_then (λ (w : Value). part_at w q.path) (option_and_then (reads (root_id q.root)) o) ≡ Some v → HasShape a.types no_roots target v
      by_roots None e h = absurd (cc)
      by_roots (Some es) e h = by_value es e (reads (root_id q.root) es) refl h

  -- a value of the target type may be put there
  pub may_put : (i : ℕ) (u : Value) → is_counted a.types target ≡ true → HasShape a.types no_roots target u → MayStore m i q u
  may_put i u counted shape = λ ty v named there t w leads_to part.
      let same : target ≡ t = let one = reaches ty named in cc in (
        subst (λ (k : ℕ). is_counted m.types k ≡ true) same (subst (λ (ts : Types). is_counted ts target ≡ true) (sym types) counted),
        subst (λ (k : ℕ). HasShape m.types no_roots k u) same (subst (λ (ts : Types). HasShape ts no_roots target u) (sym types) shape),
      )

-- ---- at a site

pub types_are : (x : Site) → ∥ IsSite x ∥₁ → x.state.memory.types ≡ (accepted x).types
types_are x site = ∥∥₁_elim site (hlevel (props, codes)) (λ (is : IsSite x). is.sound.types)

pub targets_are : (x : Site) → ∥ IsSite x ∥₁ → x.state.memory.targets ≡ targets_of (variables (accepted x))
targets_are x site = ∥∥₁_elim site (hlevel (props, codes)) (λ (is : IsSite x). is.sound.targets)

ok_some : {A : Type 0} (o : Option A) (cause : Cause) (x : A) → ok_or o cause ≡ Ok x → o ≡ Some x
ok_some None cause x h = absurd (cc)
ok_some (Some y) cause x h = cc

-- the place and the part there
pub record Found (x : Site) (at v : Value) : Type 0 where
  pub place : Reference
  pub is : pointer at ≡ Ok place
  pub there : load_of x.state.memory x.inv place ≡ Some v

pub found : (x : Site) (at v : Value) → part_of x at ≡ Ok v → Found x at v
found x at v part = by_place (pointer at) refl part
  where
    by_place : (r : Result Reference Cause) → pointer at ≡ r → (r >>= loaded x.state x.inv) ≡ Ok v → Found x at v
    by_place (Ok q) e h = record { place = q; is = e; there = ok_some (load_of x.state.memory x.inv q) OutOfBounds v h }
    by_place (Err cause) e h = absurd (cc)

module _ (x : Site) (sound : AreSound (accepted x).types) (valid : ∥ IsValid (accepted x) ∥₁) (site : ∥ IsSite x ∥₁) (at : Value) (shaped : IsShaped (accepted x) x.inst 0 at) where
  pub load_shape : (v : Value) → KeepsLoad (known (accepted x)) x.inst → ∥ IsMemory x.state.memory ∥₁ → part_of x at ≡ Ok v → IsResult (accepted x) x.inst v
  load_shape v rule memory part =
      let there = found x at v part in
      let leads : LeadsTo (accepted x).types (type_in (accepted x)) there.place rule.0.target = leads_there (accepted x) sound x.inst 0 at shaped rule.0 rule.1 there.place there.is in
      ∥∥₁_elim memory (shape_prop (accepted x).types no_roots x.inst.ty v) (λ (m : IsMemory x.state.memory).
      subst (λ (ty : ℕ). HasShape (accepted x).types no_roots ty v) rule.2.0
      (part_shape x.state.memory (accepted x) (types_are x site) (targets_are x site) there.place rule.0.target leads x.inv v m there.there))

  pub store_fits : (v u : Value) (q : Reference) → KeepsStore (known (accepted x)) x.inst → part_of x at ≡ Ok v → pointer at ≡ Ok q → IsOperand (accepted x) x.inst 1 u → StoreFits x.state x.inv (Some (q, u))
  store_fits v u q rule part place object =
      let there = found x at v part in
      let same : there.place ≡ q = let is = there.is in cc in
      let leads : LeadsTo (accepted x).types (type_in (accepted x)) q rule.0.target = leads_there (accepted x) sound x.inst 0 at shaped rule.0 rule.1 q place in
      let counted : is_counted (accepted x).types rule.0.target ≡ true
      = ∥∥₁_elim valid (hlevel props) (λ (is : IsValid (accepted x)). sized_counted (accepted x).types sound is.lengths rule.0.target rule.2.1.1) in
      let loads : load_of x.state.memory x.inv q ≡ Some v = ap (load_of x.state.memory x.inv) (sym same) ∙ there.there in (
        subst (λ (o : Option Value). IsSome o) (sym loads) refl,
        ∣ may_put x.state.memory (accepted x) (types_are x site) (targets_are x site) q rule.0.target leads x.inv u counted (object rule.0.target rule.2.0) ∣₁,
      )
