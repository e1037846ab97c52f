-- What an id stands for in a sound state is of the type of its result.
use Rattle.std.proofs.Common.{◌≡◌, ◌∙◌, ℕ, ◌==◌, Bool, true, false, [], ◌∷◌, Option, Some, None, slice_get, refl, sym, ap, subst, arith}
use Rattle.std.proofs.Math.Logic.{∥∥₁_elim}
use Rattle.std.proofs.Props.{props}
use Rattle.std.proofs.lemmas.Bool.{eqb-true}
use Rattle.std.specs.Coded.{codes}
use Rattle.std.specs.List.{AllByRecursion, Contains}
use Rattle.std.specs.Option.{IsSomeAnd, is_some, option_and_then, option_map, option_map_or}
use Rattle.std.specs.Prelude.{IsSome, if◌then◌else◌, unwrap_or}
use Rattle.spv_base.specs.Entries.{reads}
use Rattle.spv_base.specs.declared.instructions.Inst.{Inst}
use Rattle.spv_base.specs.declared.values.Pointer.{Pointer as Reference}
use Rattle.spv_base.specs.declared.values.Root.{Root}
use Rattle.spv_base.specs.declared.values.Root.TheVariants.{Shared, Private, Local}
use Rattle.spv_base.specs.declared.values.Value.{Value, Ptr}
use Rattle.spv_base.proofs.Exports.{out_pointer}
use Rattle.spv_index.specs.Definitions.{defining, result_type, type_in}
use Rattle.spv_types.specs.declared.forms.Form.{Form}
use Rattle.spv_types.specs.declared.forms.Form.TheVariants.{Pointer}
use Rattle.spv_types.specs.declared.queries.Pointed.{Pointed}
use Rattle.spv_types.specs.Cells.{cells_of}
use Rattle.spv_types.specs.Queries.{is_pointer, pointee}
use Rattle.spv_types.specs.Rows.{no_roots}
use Rattle.spv_types.specs.Shapes.{HasShape, LeadsTo, pointer_in, reached_type}
use Rattle.spv_types.specs.Types.{form_of}
use Rattle.spv_types.proofs.Exports.{shapes_are_by_forms}
use Rattle.spv_consts.specs.Laws.{IsConstantOf}
use Rattle.spv_consts.specs.Table.{Constants, Row}
use Rattle.spv_consts.specs.Trees.{tree_of}
use Rattle.spv_frame.specs.Frames.{Held as Frame}
use Rattle.spv_frame.specs.Registers.{ids, number_of}
use Rattle.spv_initial.specs.Start.{variables}
use Rattle.spv_initial.specs.Variables.{targets_of}
use Rattle.spv_operands.specs.Operands.{pointer_of}
use Rattle.spv_operands.specs.Shapes.{target_in}
use Rattle.spv_operands.specs.Values.{is_own, module_root, pointer_to, register_value, storage_class}
use Rattle.spv_operands.specs.Variables.{IsDeclared}
use Rattle.spv_operands.proofs.Exports.{Defines, data_plain, defines, local_meant, module_meant, target_parts}
use Rattle.spv_plans.specs.Plans.{functions_in, plan_of}
use Rattle.spv_plans.specs.Registered.{HasPointerType, HasValueType, IsOfFunction}
use Rattle.spv_results.proofs.Exports.{shape_prop, sound_types}
use Rattle.spv_show.specs.Elements.{with_elements}
use Rattle.spv_show.proofs.Exports.{counted_shape}
use Rattle.spv_state.specs.Program.{Program}
use Rattle.spv_state.specs.Sound.{IsSound, IsSoundFrame}
use Rattle.spv_state.specs.State.{State, frames_of}
use Rattle.spv_valid.specs.Acceptance.{Accepted, IsAccepted}
use Rattle.spv_valid.specs.Meanings.{meaning_of}
use Rattle.spv_valid.specs.Validity.{IsValid}
use Rattle.spv_valid.specs.declared.meanings.Meaning.{Meaning}
use Rattle.spv_valid.specs.declared.meanings.Meaning.TheVariants.{TypeDefinition, Constant, Undefined, ModuleVariable, Variable, Register, Label, Function, Other}
use Rattle.spv_ids.specs.Ids.{frame_value, id_value, module_value, value_in}
use Rattle.spv_ids.specs.Texts.{target_of, type_of}
use Rattle.spv_ids.specs.Typed.{IsTyped, variable_type}
use Rattle.spv_ids.proofs.FrameLemmas.{frame_sound}
use Rattle.spv_ids.proofs.TreeLemmas.{tree_shape}

-- ---- data and pointers

none_of : (o : Option Reference) → is_some o ≡ false → (q : Reference) → o ≡ Some q → ⊥
none_of None h q e = cc
none_of (Some p) h q e = cc

typed_data : (a : Accepted) (id : ℕ) (v : Value) → is_some (pointer_of v) ≡ false → HasShape (with_elements 0 a.types) no_roots (type_of a id) v → IsTyped a id v
typed_data a id v plain shape = record { value = λ e. shape; pointer = λ q e. absurd (none_of (pointer_of v) plain q e) }

typed_pointer : (a : Accepted) (id : ℕ) (p : Reference) → LeadsTo a.types (variable_type a) p (target_of a id) → IsTyped a id (Ptr p)
typed_pointer a id p leads = record {
  value = λ e. absurd (none p e);
  pointer = λ q e. let same : p ≡ q = one q e in subst (λ (r : Reference). LeadsTo a.types (variable_type a) r (target_of a id)) same leads;
}
  where
    own : pointer_of (Ptr p) ≡ Some p
    own = ap pointer_in (out_pointer p)

    none : (r : Reference) → pointer_of (Ptr p) ≡ None → ⊥
    none r e = let there = own in cc

    one : (q : Reference) → pointer_of (Ptr p) ≡ Some q → p ≡ q
    one q e = let there = own in cc

-- ---- types

-- the type of a result is that of the instruction that defines it
type_defined : (a : Accepted) (id ty : ℕ) → option_map (λ (i : Inst). i.ty) (defining a.insts id) ≡ Some ty → type_of a id ≡ ty
type_defined a id ty h = by_inst (defining a.insts id) h
  where
    by_type : (i : Inst) (b : Bool) → (i.ty == 0) ≡ b → unwrap_or (if b then None else Some i.ty) 0 ≡ i.ty
    by_type i true e = sym (eqb-true i.ty 0 e)
    by_type i false e = refl

    by_inst : (o : Option Inst) → option_map (λ (i : Inst). i.ty) o ≡ Some ty → unwrap_or (option_and_then type_in o) 0 ≡ ty
    by_inst None g = absurd (cc)
    by_inst (Some i) g = let same : i.ty ≡ ty = cc in by_type i (i.ty == 0) refl ∙ same

type_resulting : (a : Accepted) (id ty : ℕ) → result_type a.insts id ≡ Some ty → type_of a id ≡ ty
type_resulting a id ty h = ap (λ (o : Option ℕ). unwrap_or o 0) h

-- ---- constants

constant_read : (P : ℕ × Row → Type 0) (cs : Constants) (id : ℕ) (r : Row) → AllByRecursion P cs → reads id cs ≡ Some r → P (id, r)
constant_read P [] id r all h = absurd (cc)
constant_read P (c ∷ cs) id r (first, rest) h = by_test (c.0 == id) refl h (constant_read P cs id r rest)
  where
    by_test : (b : Bool) → (c.0 == id) ≡ b → (if b then Some c.1 else reads id cs) ≡ Some r → (reads id cs ≡ Some r → P (id, r)) → P (id, r)
    by_test true own g behind =
        let same : c.1 ≡ r = cc in
        subst (λ (x : Row). P (id, x)) same (subst (λ (k : ℕ). P (k, c.1)) (eqb-true c.0 id own) first)
    by_test false other g behind = behind g

constant_typed : (a : Accepted) → ∥ IsValid a ∥₁ → (id : ℕ) (v : Value) → option_map (tree_of a.types) (reads id a.constants) ≡ Some v → IsTyped a id v
constant_typed a valid id v h = by_row (reads id a.constants) refl h
  where
    row_typed : (r : Row) → reads id a.constants ≡ Some r → IsTyped a id (tree_of a.types r)
    row_typed r e = typed_data a id (tree_of a.types r)
        (∥∥₁_elim valid (hlevel (props, codes)) (λ (k : IsValid a).
        let constant = constant_read (IsConstantOf a.types a.insts no_roots) a.constants id r (k.shapes no_roots) e in
        data_plain a.types k.types r.ty (tree_of a.types r) constant.row.shape))
        (∥∥₁_elim valid (shape_prop (with_elements 0 a.types) no_roots (type_of a id) (tree_of a.types r)) (λ (k : IsValid a).
        let constant = constant_read (IsConstantOf a.types a.insts no_roots) a.constants id r (k.shapes no_roots) e in
        subst (λ (t : ℕ). HasShape (with_elements 0 a.types) no_roots t (tree_of a.types r)) (sym (type_defined a id r.ty constant.ty)) (tree_shape a.types r.ty r.cells constant.row.shape)))

    by_row : (o : Option Row) → reads id a.constants ≡ o → option_map (tree_of a.types) o ≡ Some v → IsTyped a id v
    by_row None e g = absurd (cc)
    by_row (Some r) e g = let same : tree_of a.types r ≡ v = cc in subst (IsTyped a id) same (row_typed r e)

-- ---- variables

-- each OpVariable of an accepted module is declared
abbrev pub AreDeclared : Type 0
AreDeclared = (a : Accepted) (i : Inst) → IsAccepted a → Contains a.insts i → i.op ≡ 59 → IsDeclared a i

variable_leads : (a : Accepted) (declared : AreDeclared) (id : ℕ) (r : Root) (i : Inst) → IsAccepted a → defining a.insts id ≡ Some i → i.op ≡ 59 → variable_type a r ≡ reads id (targets_of (variables a))
    → LeadsTo a.types (variable_type a) (record { root = r; path = [] }) (target_of a id)
unfolding reached_type
variable_leads a declared id r i is defined op root =
    let own : Defines a.insts id i = defines a.insts id i defined in
    let d : IsDeclared a i = declared a i is own.there op in
    let type : type_of a id ≡ i.ty = type_defined a id i.ty (ap (option_map (λ (i : Inst). i.ty)) defined) in
    let target : target_of a id ≡ d.pointed.target = ap (λ (t : ℕ). option_map_or (λ (p : Pointed). p.target) (pointee (form_of a.types t)) 0) type ∙ ap (λ (o : Option Pointed). option_map_or (λ (p : Pointed). p.target) o 0) d.type in
    let named : variable_type a r ≡ Some d.pointed.target = root ∙ sym (ap (λ (k : ℕ). reads k (targets_of (variables a))) own.named) ∙ d.target in
    ap (option_and_then (λ t. reached_type a.types t [])) named ∙ ap Some (sym target)

module_target : (a : Accepted) (id : ℕ) → variable_type a (module_root a.insts id) ≡ reads id (targets_of (variables a))
module_target a id = by_class (option_map_or is_own (storage_class a.insts id) false)
  where
    by_class : (b : Bool) → variable_type a (if b then Private id else Shared id) ≡ reads id (targets_of (variables a))
    by_class true = refl
    by_class false = refl

leads_prop : (a : Accepted) (q : Reference) (target : ℕ) → IsProp (LeadsTo a.types (variable_type a) q target)
leads_prop a q target = hlevel (props, codes)

module_typed : (a : Accepted) (declared : AreDeclared) → ∥ IsAccepted a ∥₁ → (id : ℕ) → meaning_of a.insts id ≡ Some ModuleVariable → IsTyped a id (pointer_to (module_root a.insts id))
module_typed a declared accepted id meant =
    typed_pointer a id (record { root = module_root a.insts id; path = [] })
    (∥∥₁_elim accepted (leads_prop a (record { root = module_root a.insts id; path = [] }) (target_of a id)) (λ (is : IsAccepted a).
    let at = module_meant a is id meant in
    variable_leads a declared id (module_root a.insts id) at.inst is at.defines at.op (module_target a id)))

local_typed : (a : Accepted) (declared : AreDeclared) → ∥ IsAccepted a ∥₁ → (depth id function : ℕ) → meaning_of a.insts id ≡ Some (Variable function) → IsTyped a id (pointer_to (Local depth id))
local_typed a declared accepted depth id function meant =
    typed_pointer a id (record { root = Local depth id; path = [] })
    (∥∥₁_elim accepted (leads_prop a (record { root = Local depth id; path = [] }) (target_of a id)) (λ (is : IsAccepted a).
    let at = local_meant a is id function meant in
    variable_leads a declared id (Local depth id) at.inst is at.defines at.op refl))

-- ---- registers

-- registers have the types of their ids
pub record HaveTypes : Type 0 where
  pub values : (a : Accepted) (function id n : ℕ) → ∥ IsAccepted a ∥₁ → Contains (functions_in a) function → number_of id (ids (plan_of a function).values) ≡ Some n → HasValueType a (plan_of a function) id n
  pub pointers : (a : Accepted) (function id n : ℕ) → ∥ IsAccepted a ∥₁ → Contains (functions_in a) function → number_of id (plan_of a function).pointers ≡ Some n → HasPointerType a id

-- where a pointer leads by its type it leads whatever the variable's storage class is
leads_by_type : (a : Accepted) (ty : ℕ) (q : Reference) (target : ℕ) → LeadsTo a.types (target_in a ty) q target → LeadsTo a.types (variable_type a) q target
leads_by_type a ty q target leads = by_type (target_in a ty q.root) refl leads
  where
    by_type : (o : Option ℕ) → target_in a ty q.root ≡ o → option_and_then (λ t. reached_type a.types t q.path) o ≡ Some target → LeadsTo a.types (variable_type a) q target
    by_type None e h = absurd (cc)
    by_type (Some t) e h = ap (option_and_then (λ t. reached_type a.types t q.path)) (target_parts a ty q.root t e).target ∙ h

pointer_form : (o : Option Form) → is_pointer o ≡ true → (class : ℕ) × (target : ℕ) × (o ≡ Some (Pointer class target))
pointer_form o h = grind arith

module _ (a : Accepted) (valid : ∥ IsValid a ∥₁) (accepted : ∥ IsAccepted a ∥₁) (types : HaveTypes) (f : Frame) (sound : IsSoundFrame a f) (plan : IsOfFunction a f.plan) (id : ℕ) where
  value_typed : (n : ℕ) (v : Value) → number_of id (ids f.plan.values) ≡ Some n → reads id f.values ≡ Some (Some v) → IsTyped a id v
  value_typed n v number read =
      let typed = types.values a f.plan.function id n accepted plan.function (sym (ap (λ p. number_of id (ids p.values)) plan.is) ∙ number) in
      let shape : HasShape a.types no_roots typed.ty v = sound.shaped.values id typed.ty v read typed.is in
      let counted : IsSome (cells_of a.types typed.ty) = subst IsSome (sym typed.cells) refl in
      typed_data a id v (data_plain a.types (sound_types a valid) typed.ty v shape)
      (subst (λ (t : ℕ). HasShape (with_elements 0 a.types) no_roots t v) (sym (type_resulting a id typed.ty typed.is)) (counted_shape 0 a.types typed.ty v shape counted))

  pointer_typed : (n : ℕ) (q : Reference) → number_of id f.plan.pointers ≡ Some n → reads id f.pointers ≡ Some (Some q) → IsTyped a id (Ptr q)
  pointer_typed n q number read =
      let typed = types.pointers a f.plan.function id n accepted plan.function (sym (ap (λ p. number_of id p.pointers) plan.is) ∙ number) in
      let form = pointer_form (form_of a.types typed.ty) typed.pointer in
      let shape : HasShape a.types (target_in a typed.ty) typed.ty (Ptr q) = sound.shaped.pointers id typed.ty q read typed.is in
      let near : LeadsTo a.types (target_in a typed.ty) q form.1 = subst (λ o. IsSomeAnd (pointer_in o) (λ p. LeadsTo a.types (target_in a typed.ty) p form.1)) (out_pointer q)
      ((shapes_are_by_forms a.types (target_in a typed.ty) (sound_types a valid) typed.ty (Pointer form.0 form.1) (Ptr q) form.2).0 shape) in
      let leads : LeadsTo a.types (variable_type a) q form.1 = leads_by_type a typed.ty q form.1 near in
      let target : target_of a id ≡ form.1 = ap (λ (t : ℕ). option_map_or (λ (p : Pointed). p.target) (pointee (form_of a.types t)) 0) (type_resulting a id typed.ty typed.is)
      ∙ ap (λ (o : Option Form). option_map_or (λ (p : Pointed). p.target) (pointee o) 0) form.2 in
      typed_pointer a id q (subst (LeadsTo a.types (variable_type a) q) (sym target) leads)

  register_typed : (v : Value) → register_value f id ≡ Some v → IsTyped a id v
  register_typed v h = by_kind (number_of id (ids f.plan.values)) (number_of id f.plan.pointers) refl refl h
    where
      by_value : (n : ℕ) → number_of id (ids f.plan.values) ≡ Some n → (o : Option (Option Value)) → reads id f.values ≡ o → unwrap_or o None ≡ Some v → IsTyped a id v
      by_value n number None e g = absurd (cc)
      by_value n number (Some x) e g = value_typed n v number (e ∙ ap Some g)

      by_pointer : (n : ℕ) → number_of id f.plan.pointers ≡ Some n → (o : Option (Option Reference)) → reads id f.pointers ≡ o → option_map Ptr (unwrap_or o None) ≡ Some v → IsTyped a id v
      by_pointer n number None e g = absurd (cc)
      by_pointer n number (Some None) e g = absurd (cc)
      by_pointer n number (Some (Some q)) e g = let same : Ptr q ≡ v = cc in subst (IsTyped a id) same (pointer_typed n q number e)

      by_kind : (o p : Option ℕ) → number_of id (ids f.plan.values) ≡ o → number_of id f.plan.pointers ≡ p
          → (if is_some o then unwrap_or (reads id f.values) None else (if is_some p then option_map Ptr (unwrap_or (reads id f.pointers) None) else None)) ≡ Some v → IsTyped a id v
      by_kind (Some n) p e d g = by_value n e (reads id f.values) refl g
      by_kind None (Some n) e d g = by_pointer n d (reads id f.pointers) refl g
      by_kind None None e d g = absurd (cc)

-- ---- all that an id may stand for

outside_typed : (a : Accepted) → ∥ IsValid a ∥₁ → ∥ IsAccepted a ∥₁ → AreDeclared → (id : ℕ) (m : Meaning) (v : Value) → meaning_of a.insts id ≡ Some m → module_value a id m ≡ Some v → IsTyped a id v
outside_typed a valid accepted declared id Constant v meant h = constant_typed a valid id v h
outside_typed a valid accepted declared id ModuleVariable v meant h = let same : pointer_to (module_root a.insts id) ≡ v = cc in subst (IsTyped a id) same (module_typed a declared accepted id meant)
outside_typed a valid accepted declared id TypeDefinition v meant h = absurd (cc)
outside_typed a valid accepted declared id (Undefined ty) v meant h = absurd (cc)
outside_typed a valid accepted declared id (Variable function) v meant h = absurd (cc)
outside_typed a valid accepted declared id (Register function) v meant h = absurd (cc)
outside_typed a valid accepted declared id (Label function) v meant h = absurd (cc)
outside_typed a valid accepted declared id Function v meant h = absurd (cc)
outside_typed a valid accepted declared id Other v meant h = absurd (cc)

inside_typed : (a : Accepted) → ∥ IsValid a ∥₁ → ∥ IsAccepted a ∥₁ → AreDeclared → HaveTypes → (f : Frame) → IsSoundFrame a f → IsOfFunction a f.plan → (depth id : ℕ) (m : Meaning) (v : Value)
    → meaning_of a.insts id ≡ Some m → frame_value a f depth id m ≡ Some v → IsTyped a id v
inside_typed a valid accepted declared types f sound plan depth id (Register function) v meant h = register_typed a valid accepted types f sound plan id v h
inside_typed a valid accepted declared types f sound plan depth id (Variable function) v meant h = by_function (f.plan.function == function) h
  where
    by_function : (b : Bool) → (if b then Some (pointer_to (Local depth id)) else None) ≡ Some v → IsTyped a id v
    by_function true g = let same : pointer_to (Local depth id) ≡ v = cc in subst (IsTyped a id) same (local_typed a declared accepted depth id function meant)
    by_function false g = absurd (cc)
inside_typed a valid accepted declared types f sound plan depth id Constant v meant h = outside_typed a valid accepted declared id Constant v meant h
inside_typed a valid accepted declared types f sound plan depth id ModuleVariable v meant h = outside_typed a valid accepted declared id ModuleVariable v meant h
inside_typed a valid accepted declared types f sound plan depth id TypeDefinition v meant h = absurd (cc)
inside_typed a valid accepted declared types f sound plan depth id (Undefined ty) v meant h = absurd (cc)
inside_typed a valid accepted declared types f sound plan depth id (Label function) v meant h = absurd (cc)
inside_typed a valid accepted declared types f sound plan depth id Function v meant h = absurd (cc)
inside_typed a valid accepted declared types f sound plan depth id Other v meant h = absurd (cc)

pub id_typed : (p : Program) (s : State) → ∥ IsValid p.accepted ∥₁ → ∥ IsAccepted p.accepted ∥₁ → AreDeclared → HaveTypes → IsSound p s → ((a : Accepted) (f : Frame) → IsSoundFrame a f → IsOfFunction a f.plan)
    → (i : ℕ) (depth : Option ℕ) (id : ℕ) (v : Value) → id_value p s i depth id ≡ Some v → IsTyped p.accepted id v
unfolding id_value
id_typed p s valid accepted declared types sound plans i depth id v h = by_meaning (meaning_of p.accepted.insts id) refl h
  where
    by_frame : (m : Meaning) → meaning_of p.accepted.insts id ≡ Some m → (k : ℕ) (o : Option Frame) → slice_get (frames_of s i) k ≡ o
        → option_map_or (λ (f : Frame). frame_value p.accepted f k id m) o (module_value p.accepted id m) ≡ Some v → IsTyped p.accepted id v
    by_frame m meant k None at g = outside_typed p.accepted valid accepted declared id m v meant g
    by_frame m meant k (Some f) at g =
        let own = frame_sound p s i k f sound at in
        inside_typed p.accepted valid accepted declared types f own (plans p.accepted f own) k id m v meant g

    by_depth : (m : Meaning) → meaning_of p.accepted.insts id ≡ Some m → (d : Option ℕ) → value_in p.accepted (frames_of s i) d id m ≡ Some v → IsTyped p.accepted id v
    by_depth m meant None g = outside_typed p.accepted valid accepted declared id m v meant g
    by_depth m meant (Some k) g = by_frame m meant k (slice_get (frames_of s i) k) refl g

    by_meaning : (o : Option Meaning) → meaning_of p.accepted.insts id ≡ o → option_and_then (value_in p.accepted (frames_of s i) depth id) o ≡ Some v → IsTyped p.accepted id v
    by_meaning None meant g = absurd (cc)
    by_meaning (Some m) meant g = by_depth m meant depth g
