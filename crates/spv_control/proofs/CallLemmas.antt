-- What acceptance gives of a call and of a return with a value.
use Rattle.std.proofs.Common.{◌≡◌, ◌∙◌, ℕ, zero, suc, ◌==◌, Bool, true, false, cond, List, [], ◌∷◌, drop, Option, Some, None, slice_get, refl, sym, ap, subst}
use Rattle.std.proofs.Math.Logic.{∥∥₁_elim, ∥∥₁_map}
use Rattle.std.proofs.Props.{props}
use Rattle.std.proofs.lemmas.Bool.{and_parts, both_ways, eqb-true}
use Rattle.std.specs.Coded.{codes}
use Rattle.std.specs.List.{AllZip, Contains}
use Rattle.std.specs.Option.{is_some, option_and_then, unwrap_or}
use Rattle.std.specs.Prelude.{◌&&◌, if◌then◌else◌}
use Rattle.spv_base.specs.declared.instructions.Inst.{Inst}
use Rattle.spv_base.specs.declared.instructions.Operand.{Operand}
use Rattle.spv_base.specs.declared.values.Pointer.{Pointer as Reference}
use Rattle.spv_base.specs.declared.values.Value.{Value, out-Value}
use Rattle.spv_base.specs.declared.values.Value.TheOpen.{Value-F}
use Rattle.spv_index.specs.Definitions.{at, defining, result_type}
use Rattle.spv_index.specs.Operands.{id_in, id_operand}
use Rattle.spv_types.specs.declared.forms.Form.{Form}
use Rattle.spv_types.specs.declared.forms.Form.TheVariants.{Pointer, Function}
use Rattle.spv_types.specs.Laws.{AreSound}
use Rattle.spv_types.specs.Queries.{is_pointer, parameters_in as types_in}
use Rattle.spv_types.specs.Rows.{no_roots}
use Rattle.spv_types.specs.Shapes.{HasShape}
use Rattle.spv_types.specs.Types.{form_of}
use Rattle.spv_bodies.specs.Bodies.{KeepsRule}
use Rattle.spv_bodies.specs.Calls.{KeepsCall, callee_form, form_by, function_form, parameter_type}
use Rattle.spv_bodies.specs.Context.{Known, is_given, type_in, type_of}
use Rattle.spv_bodies.specs.Control.{KeepsReturnValue}
use Rattle.spv_bodies.specs.Rules.{atomic_rule, composite_rule, control_rule, memory_rule, other_rule, rule_of}
use Rattle.spv_valid.specs.Acceptance.{Accepted, IsAccepted}
use Rattle.spv_valid.specs.Validity.{IsValid}
use Rattle.spv_plans.specs.Plans.{functions_in}
use Rattle.spv_plans.proofs.Exports.{contains_at}
use Rattle.spv_operands.specs.Operands.{pointer_of}
use Rattle.spv_operands.specs.Shapes.{target_in}
use Rattle.spv_operands.proofs.Exports.{Defines, data_plain, defines}
use Rattle.spv_results.specs.Operands.{known}
use Rattle.spv_results.proofs.Exports.{shape_prop, sound_types}
use Rattle.spv_state.specs.Sound.{IsCallOf, StandsIn}
use Rattle.spv_state.specs.State.{depth_of, frames_of}
use Rattle.spv_state.proofs.Exports.{function_listed, known as known_of, root_prop, stood}
use Rattle.spv_sites.specs.Calls.{callee}
use Rattle.spv_sites.specs.Fits.{LeaveFits, LevelFits, ResultRooted}
use Rattle.spv_control.specs.Passing.{Passes, parameters_in}
use Rattle.spv_sites.specs.Sites.{IsShaped, IsSite, Site, accepted, values}
use Rattle.spv_control.proofs.ParameterLemmas.{parameters_typed}
use Rattle.spv_sites.proofs.Exports.{IsKept, Runs, frame_sound, given_root, pointer_form, pointer_shape, shaped_level, site_root, site_runs}
use Rattle.spv_control.proofs.WithinLemmas.{KeptIn, kept_in}

-- ---- the rules

rule_by : (k : Known) (i : Inst) (kept : IsKept k i) (n : ℕ) → i.op ≡ n → KeepsRule k kept.placed (rule_of n)
rule_by k i kept n op = subst (λ (m : ℕ). KeepsRule k kept.placed (rule_of m)) (ap (λ (j : Inst). j.op) kept.same ∙ op) kept.keeps.1

call_rule : (k : Known) (i : Inst) → IsKept k i → i.op ≡ 57 → KeepsCall k i
unfolding memory_rule atomic_rule composite_rule control_rule other_rule
call_rule k i kept op = subst (KeepsCall k) kept.same (rule_by k i kept 57 op)

return_rule : (k : Known) (insts : List Inst) (function : ℕ) (i : Inst) (kept : KeptIn k insts function i) → i.op ≡ 254 → KeepsReturnValue k kept.placed.within.returns i
unfolding memory_rule atomic_rule composite_rule control_rule other_rule
return_rule k insts function i kept op =
    let own : kept.placed.inst.op ≡ 254 = ap (λ (j : Inst). j.op) kept.same ∙ op in
    subst (KeepsReturnValue k kept.placed.within.returns) kept.same (subst (λ (m : ℕ). KeepsRule k kept.placed (rule_of m)) own kept.keeps.1)

-- ---- the function that is called

record Callee (a : Accepted) (d : Inst) : Type 0 where
  function : ℕ
  names : id_operand d 0 ≡ Some function
  number : ℕ
  inst : Inst
  at : slice_get a.insts number ≡ Some inst
  op : inst.op ≡ 54
  id : inst.id ≡ function
  parameters : List ℕ
  form : function_form (known a) inst ≡ Some (Function d.ty parameters)
  each : AllZip (λ ty o. type_in (known a) o ≡ Some ty) parameters (drop 1 d.operands)

callee_is : (a : Accepted) (d : Inst) → KeepsCall (known a) d → Callee a d
callee_is a d kept = by_id (id_operand d 0) refl kept.1
  where
    k : Known
    k = known a

    by_op : (id : ℕ) (f : Inst) → id_operand d 0 ≡ Some id → defining a.insts id ≡ Some f → (b : Bool) → (f.op == 54) ≡ b → cond b (function_form k f) None ≡ Some (Function d.ty kept.0) → Callee a d
    by_op id f names defined true e h =
        let there : Defines a.insts id f = defines a.insts id f defined in
        let place = contains_at a.insts f there.there in
        record { function = id; names = names; number = place.0; inst = f; at = place.1; op = eqb-true f.op 54 e; id = there.named; parameters = kept.0; form = h; each = kept.2.1 }
    by_op id f names defined false e h = absurd (cc)

    by_inst : (id : ℕ) → id_operand d 0 ≡ Some id → (o : Option Inst) → defining a.insts id ≡ o → option_and_then (form_by k) o ≡ Some (Function d.ty kept.0) → Callee a d
    by_inst id names None e h = absurd (cc)
    by_inst id names (Some f) e h = by_op id f names e (f.op == 54) refl h

    by_id : (o : Option ℕ) → id_operand d 0 ≡ o → option_and_then (callee_form k) o ≡ Some (Function d.ty kept.0) → Callee a d
    by_id None e h = absurd (cc)
    by_id (Some id) e h = by_inst id e (defining a.insts id) refl h

callee_named : (a : Accepted) (d : Inst) (c : Callee a d) → callee d ≡ c.function
callee_named a d c = ap (λ (o : Option ℕ). unwrap_or o 0) c.names

-- ---- its arguments

argument_typed : (k : Known) (tys : List ℕ) (os : List Operand) (m ty : ℕ) → AllZip (λ t o. type_in k o ≡ Some t) tys os → slice_get tys m ≡ Some ty → option_and_then (type_in k) (slice_get os m) ≡ Some ty
argument_typed k [] os m ty each at = absurd (cc)
argument_typed k (t ∷ ts) [] m ty each at = absurd each
argument_typed k (t ∷ ts) (o ∷ os) zero ty each at = let same : t ≡ ty = cc in each.0 ∙ ap Some same
argument_typed k (t ∷ ts) (o ∷ os) (suc m) ty each at = argument_typed k ts os m ty each.1 at

operand_typed : (k : Known) (os : List Operand) (m ty : ℕ) → option_and_then (type_in k) (slice_get (drop 1 os) m) ≡ Some ty → option_and_then (type_of k) (option_and_then id_in (slice_get os (suc m))) ≡ Some ty
operand_typed k [] m ty h = absurd (cc)
operand_typed k (o ∷ os) m ty h = by_operand (slice_get os m) h
  where
    by_operand : (p : Option Operand) → option_and_then (type_in k) p ≡ Some ty → option_and_then (type_of k) (option_and_then id_in p) ≡ Some ty
    by_operand None g = absurd (cc)
    by_operand (Some q) g = g

parameter_there : (k : Known) (f : Inst) (ret m ty : ℕ) (tys : List ℕ) → function_form k f ≡ Some (Function ret tys) → parameter_type k m (id_operand f 1) ≡ Some ty → slice_get tys m ≡ Some ty
parameter_there k f ret m ty tys form typed = by_type (id_operand f 1) form typed
  where
    by_type : (o : Option ℕ) → option_and_then (form_of k.types) o ≡ Some (Function ret tys) → parameter_type k m o ≡ Some ty → slice_get tys m ≡ Some ty
    by_type None e h = absurd (cc)
    by_type (Some t) e h = sym (ap (λ (x : Option Form). slice_get (types_in x) m) e) ∙ h

passed : (a : Accepted) → IsAccepted a → IsValid a → (d : Inst) (c : Callee a d) → Passes a d c.function
passed a accepts v d c n i h =
    let k : Known = known a in
    let own : slice_get (parameters_in a c.inst.id) n ≡ Some i = subst (λ (f : ℕ). slice_get (parameters_in a f) n ≡ Some i) (sym c.id) h in
    let typed = parameters_typed a accepts v c.number c.inst c.at c.op n i own in
    operand_typed k d.operands n i.ty (argument_typed k c.parameters (drop 1 d.operands) n i.ty c.each (parameter_there k c.inst d.ty n i.ty c.parameters c.form typed))

-- ---- what is given

-- a pointer that is given leads into a StorageBuffer (12)
given_form : (k : Known) (f : Option Form) → is_given k f ≡ true → is_pointer f ≡ true → (target : ℕ) × (f ≡ Some (Pointer 12 target))
given_form k f given is =
    let form = pointer_form f is in
    let buffer : (k.pointers && (form.0 == 12)) ≡ true = sym (ap (is_given k) form.2) ∙ given in
    (form.1, form.2 ∙ ap (λ (class : ℕ). Some (Pointer class form.1)) (eqb-true form.0 12 (and_parts k.pointers (form.0 == 12) buffer).1))

-- the type of an operand that is a pointer is a pointer type
lent_form : (a : Accepted) → AreSound a.types → (ty : ℕ) (v : Value) (q : Reference) → HasShape a.types (if is_pointer (form_of a.types ty) then target_in a ty else no_roots) ty v → pointer_of v ≡ Some q
    → is_pointer (form_of a.types ty) ≡ true
lent_form a sound ty v q shape lent = by_pointer (is_pointer (form_of a.types ty)) shape
  where
    by_pointer : (b : Bool) → HasShape a.types (if b then target_in a ty else no_roots) ty v → b ≡ true
    by_pointer true h = refl
    by_pointer false h = absurd (both_ways (is_some (pointer_of v)) (data_plain a.types sound ty v h) (ap is_some lent))

-- ---- at a site

module _ (x : Site) (m : Accepted) (same : m ≡ accepted x) (accepts : ∥ IsAccepted m ∥₁) (valid : ∥ IsValid m ∥₁) (site : ∥ IsSite x ∥₁) where
  own_accepts : ∥ IsAccepted (accepted x) ∥₁
  own_accepts = subst (λ (a : Accepted). ∥ IsAccepted a ∥₁) same accepts

  own_valid : ∥ IsValid (accepted x) ∥₁
  own_valid = subst (λ (a : Accepted). ∥ IsValid a ∥₁) same valid

  call_callee : x.inst.op ≡ 57 → ∥ Callee (accepted x) x.inst ∥₁
  call_callee op = ∥∥₁_map (site_runs x own_accepts own_valid site) (λ (r : Runs (accepted x) x.inst). callee_is (accepted x) x.inst (call_rule (known (accepted x)) x.inst r.kept op))

  pub call_names : x.inst.op ≡ 57 → (function : ℕ) × (id_operand x.inst 0 ≡ Some function)
  call_names op = by_id (id_operand x.inst 0) refl
    where
      by_id : (o : Option ℕ) → id_operand x.inst 0 ≡ o → (function : ℕ) × (id_operand x.inst 0 ≡ Some function)
      by_id None e = absurd (∥∥₁_elim (call_callee op) (hlevel props) (λ (c : Callee (accepted x) x.inst). let some = c.names in cc))
      by_id (Some function) e = (function, e)

  pub call_known : x.inst.op ≡ 57 → ∥ Contains (functions_in (accepted x)) (callee x.inst) ∥₁
  call_known op =
      ∥∥₁_map (call_callee op) (λ (c : Callee (accepted x) x.inst).
      subst (Contains (functions_in (accepted x))) (sym (callee_named (accepted x) x.inst c)) (function_listed c.function (accepted x).insts c.number c.inst c.at c.op c.id))

  pub call_passes : x.inst.op ≡ 57 → Passes (accepted x) x.inst (callee x.inst)
  call_passes op n i h =
      ∥∥₁_elim (call_callee op) (hlevel (props, codes)) (λ (c : Callee (accepted x) x.inst).
      ∥∥₁_elim own_accepts (hlevel (props, codes)) (λ (is : IsAccepted (accepted x)).
      ∥∥₁_elim own_valid (hlevel (props, codes)) (λ (v : IsValid (accepted x)).
      passed (accepted x) is v x.inst c n i (subst (λ (f : ℕ). slice_get (parameters_in (accepted x) f) n ≡ Some i) (callee_named (accepted x) x.inst c) h))))

  -- the instruction is found at its word
  word_here : IsSite x → x.inst.word ≡ x.frame.pc
  word_here is = (found_word (accepted x).insts x.frame.pc x.inst is.stands)
    where
      found_word : (insts : List Inst) (word : ℕ) (i : Inst) → at insts word ≡ Some i → i.word ≡ word
      found_word insts word i h = (stood insts word i h).here

  pub at_word : at (accepted x).insts x.inst.word ≡ Some x.inst
  at_word = ∥∥₁_elim site (hlevel (props, codes)) (λ (is : IsSite x). ap (at (accepted x).insts) (word_here is) ∙ is.stands)

  pub call_is : x.inst.op ≡ 57 → IsCallOf (accepted x) x.inst.word (callee x.inst)
  call_is op =
      let named = call_names op in
      let own : named.0 ≡ callee x.inst = sym (ap (λ (o : Option ℕ). unwrap_or o 0) named.1) in
      (x.inst, at_word, op, named.1 ∙ ap Some own)

  -- ---- OpReturnValue

  return_kept : (function : ℕ) → IsSite x → IsAccepted (accepted x) → IsValid (accepted x) → StandsIn (accepted x) function x.inst.word → KeptIn (known (accepted x)) (accepted x).insts function x.inst
  return_kept function is h v stands = kept_in (accepted x) v (known_of (accepted x) ∣ h ∣₁ ∣ v ∣₁) function x.inst.word x.inst stands at_word

  -- what it gives has the type that the function returns
  level_prop : (a : Accepted) (ty : ℕ) (v : Value) (l : Value-F Value) → IsProp (LevelFits a ty v l)
  level_prop a ty v (Value-F.Scalar c) = shape_prop a.types no_roots ty v
  level_prop a ty v (Value-F.List vs) = shape_prop a.types no_roots ty v
  level_prop a ty v (Value-F.Ptr q) = shape_prop a.types (target_in a ty) ty v

  returned : (function ty : ℕ) (kept : KeptIn (known (accepted x)) (accepted x).insts function x.inst) (rule : KeepsReturnValue (known (accepted x)) kept.placed.within.returns x.inst)
      → result_type (accepted x).insts function ≡ Some ty → rule.0 ≡ ty
  returned function ty kept rule type =
      let r = kept.returns in
      let typed : ty ≡ r.inst.ty = (known_of (accepted x) own_accepts own_valid).types r.number ty r.inst r.at (ap (result_type (accepted x).insts) r.id ∙ type) in
      let one : Some rule.0 ≡ Some r.inst.ty = sym rule.1 ∙ r.returns in
      let e : rule.0 ≡ r.inst.ty = cc in
      e ∙ sym typed

  pub return_fits : x.inst.op ≡ 254 → (v : Value) → IsShaped (accepted x) x.inst 0 v → LeaveFits (accepted x) x.inst (Some v)
  return_fits op v shaped function stands ty type =
      let prop = level_prop (accepted x) ty v (out-Value v) in
      ∥∥₁_elim site prop (λ (is : IsSite x).
      ∥∥₁_elim own_accepts prop (λ (h : IsAccepted (accepted x)).
      ∥∥₁_elim own_valid prop (λ (valid_is : IsValid (accepted x)).
      let kept = return_kept function is h valid_is stands in
      let rule = return_rule (known (accepted x)) (accepted x).insts function x.inst kept op in
      let fits : LevelFits (accepted x) rule.0 v (out-Value v) = shaped_level (accepted x) (sound_types (accepted x) own_valid) rule.0 v (shaped rule.0 rule.2.0) in
      subst (λ (t : ℕ). LevelFits (accepted x) t v (out-Value v)) (returned function ty kept rule type) fits)))

  -- and where it is a pointer, this leads into a storage buffer
  pub return_rooted : x.inst.op ≡ 254 → (v : Value) → values x 0 ≡ Some v → IsShaped (accepted x) x.inst 0 v → ResultRooted (accepted x) [] (Some v)
  return_rooted op v value shaped q lent =
      let prop = root_prop (accepted x) [] 0 q.root in
      let sound = sound_types (accepted x) own_valid in
      ∥∥₁_elim site prop (λ (is : IsSite x).
      ∥∥₁_elim own_accepts prop (λ (h : IsAccepted (accepted x)).
      ∥∥₁_elim own_valid prop (λ (valid_is : IsValid (accepted x)).
      let stands = subst (StandsIn (accepted x) x.frame.plan.function) (sym (word_here is)) (frame_sound x is).stands in
      let kept = return_kept x.frame.plan.function is h valid_is stands in
      let rule = return_rule (known (accepted x)) (accepted x).insts x.frame.plan.function x.inst kept op in
      let form = given_form (known (accepted x)) (form_of (accepted x).types rule.0) rule.2.1 (lent_form (accepted x) sound rule.0 v q (shaped rule.0 rule.2.0) lent) in
      let root = site_root x 0 rule.0 v q m same accepts valid site value rule.2.0 lent in
      let shape = pointer_shape (accepted x) sound x.inst 0 v shaped rule.0 q rule.2.0 lent in
      given_root (accepted x) own_accepts own_valid (frames_of x.state x.inv) (depth_of x.state x.inv) rule.0 form.0 q form.1 shape root)))
