-- What an operand stands for has the shape of its id's type.
use Rattle.std.proofs.Common.{◌≡◌, ◌⊎◌, ◌∙◌, inl, inr, ℕ, suc, ◌<◌, ◌==◌, ◌&&◌, Bool, true, false, List, [], ◌∷◌, ◌++◌, length, drop, Option, Some, None, refl, sym, ap, subst, arith}
use Rattle.std.proofs.lemmas.Bool.{and_parts, both_ways, eqb-true, not-true}
use Rattle.std.specs.Prelude.{find, if◌then◌else◌, not, unwrap_or}
use Rattle.std.specs.List.{AllByRecursion, Contains}
use Rattle.std.specs.Option.{is_some, option_and_then, option_map, option_map_or}
use Rattle.spv_base.specs.Entries.{reads}
use Rattle.spv_base.specs.declared.instructions.Inst.{Inst}
use Rattle.spv_base.specs.declared.values.Pointer.{Pointer as Reference}
use Rattle.spv_base.specs.declared.values.Root.{Root}
use Rattle.spv_base.specs.declared.values.Root.TheVariants.{Shared, Private, Local}
use Rattle.spv_base.specs.declared.values.Value.{Value, Ptr}
use Rattle.spv_base.specs.Variables.{root_id}
use Rattle.spv_index.specs.Definitions.{before_functions, defining, has_result, result_type, type_in}
use Rattle.spv_index.specs.Operands.{literal_operand}
use Rattle.spv_index.specs.Positions.{Stand, stand_of}
use Rattle.spv_types.specs.declared.queries.Pointed.{Pointed}
use Rattle.spv_types.specs.Build.{type_breaches}
use Rattle.spv_types.specs.Queries.{is_pointer, pointee}
use Rattle.spv_types.specs.Rows.{no_roots}
use Rattle.spv_types.specs.Rules.{has_runtime, is_data, is_sized_data}
use Rattle.spv_types.specs.Shapes.{HasShape}
use Rattle.spv_types.specs.Types.{form_of}
use Rattle.spv_types.specs.Typing.{types_in}
use Rattle.spv_consts.specs.Laws.{IsConstantOf}
use Rattle.spv_consts.specs.Table.{Constants, Row}
use Rattle.spv_consts.specs.Trees.{tree_of}
use Rattle.spv_consts.proofs.Exports.{found_of_defining, kept_at, undef_is_sized}
use Rattle.spv_valid.specs.Below.spv_bodies.specs.declared.rules.MemoryRule.TheVariants.{Undef}
use Rattle.spv_valid.specs.Below.spv_bodies.specs.declared.rules.Rule.TheVariants.{Memory}
use Rattle.spv_valid.specs.Below.spv_bodies.specs.Bodies.{KeepsBody, KeepsRule}
use Rattle.spv_valid.specs.Below.spv_bodies.specs.Context.{Known, known_of}
use Rattle.spv_valid.specs.Below.spv_bodies.specs.Memory.{KeepsUndef}
use Rattle.spv_valid.specs.Below.spv_bodies.specs.Places.{Placed}
use Rattle.spv_valid.specs.Below.spv_bodies.specs.Rules.{memory_rule, rule_of}
use Rattle.spv_mem.specs.Blanks.{blank_of}
use Rattle.spv_mem.specs.Targets.{may_be_target}
use Rattle.spv_mem.proofs.Exports.{blank_shape}
use Rattle.spv_frame.specs.Frames.{Held}
use Rattle.spv_frame.specs.Registers.{ids, number_of}
use Rattle.spv_valid.specs.Acceptance.{Accepted, IsAccepted}
use Rattle.spv_valid.specs.Meanings.{meaning_at}
use Rattle.spv_valid.specs.Validity.{IsValid}
use Rattle.spv_valid.specs.declared.meanings.Meaning.{Meaning}
use Rattle.spv_valid.specs.declared.meanings.Meaning.TheVariants.{TypeDefinition, Constant, Undefined, ModuleVariable, Variable, Register, Label, Function, Other}
use Rattle.spv_initial.specs.Start.{variables}
use Rattle.spv_initial.specs.Variables.{targets_of}
use Rattle.spv_plans.proofs.Exports.{each_behind}
use Rattle.spv_operands.specs.Variables.{IsDeclared}
use Rattle.spv_operands.specs.Shapes.{AreShaped, target_in}
use Rattle.spv_operands.specs.Values.{is_own, module_root, pointer_to, register_value, storage_class, value_by, value_of}
use Rattle.spv_operands.proofs.ClassLemmas.{HasClass, class_known}
use Rattle.spv_operands.proofs.ClassTargets.{IsTarget, target_from}
use Rattle.spv_operands.proofs.MeaningLemmas.{local_opcode, module_opcode, stand_defines, undefined_opcode, undefined_type}
use Rattle.spv_operands.proofs.ShapeLemmas.{data_type, pointer_type, whole_shape}
use Rattle.spv_operands.proofs.ListLemmas.{each_contained}
use Rattle.spv_operands.proofs.TargetLemmas.{sized_target}
use Rattle.spv_operands.proofs.VariableLemmas.{Stands, data_later, place_of, plain_later, variable_declared}

-- a value of the shape of a type: data, or a pointer where the type is a pointer type
pub record IsShaped (a : Accepted) (ty : ℕ) (v : Value) : Type 0 where
  pub value : is_pointer (form_of a.types ty) ≡ false → HasShape a.types no_roots ty v
  pub pointer : is_pointer (form_of a.types ty) ≡ true → HasShape a.types (target_in a ty) ty v

shaped_data : (a : Accepted) → IsValid a → (ty : ℕ) (v : Value) → HasShape a.types no_roots ty v → IsShaped a ty v
shaped_data a valid ty v h = record {
  value = λ e. h;
  pointer = λ e. absurd (both_ways (is_pointer (form_of a.types ty)) (data_type a.types valid.types ty v h) e);
}

shaped_pointer : (a : Accepted) → IsValid a → (ty : ℕ) (p : Reference) → HasShape a.types (target_in a ty) ty (Ptr p) → IsShaped a ty (Ptr p)
shaped_pointer a valid ty p h = record {
  value = λ e. absurd (both_ways (is_pointer (form_of a.types ty)) e (pointer_type a.types valid.types (target_in a ty) ty p h));
  pointer = λ e. h;
}

-- ---- registers

-- what a register holds is read from its values or from its pointers
pub register_read : (f : Held) (id : ℕ) (v : Value) → register_value f id ≡ Some v → (reads id f.values ≡ Some (Some v)) ⊎ ((p : Reference) × (v ≡ Ptr p) × (reads id f.pointers ≡ Some (Some p)))
register_read f id v h = by_kind (is_some (number_of id (ids f.plan.values))) (is_some (number_of id f.plan.pointers)) h
  where
    by_value : (o : Option (Option Value)) → reads id f.values ≡ o → unwrap_or o None ≡ Some v → reads id f.values ≡ Some (Some v)
    by_value None e g = absurd (cc)
    by_value (Some x) e g = e ∙ ap Some g

    by_pointer : (o : Option (Option Reference)) → reads id f.pointers ≡ o → option_map Ptr (unwrap_or o None) ≡ Some v → (p : Reference) × (v ≡ Ptr p) × (reads id f.pointers ≡ Some (Some p))
    by_pointer None e g = absurd (cc)
    by_pointer (Some None) e g = absurd (cc)
    by_pointer (Some (Some p)) e g = let same : v ≡ Ptr p = cc in (p, same, e)

    by_kind : (b c : Bool) → (if b then unwrap_or (reads id f.values) None else (if c then option_map Ptr (unwrap_or (reads id f.pointers) None) else None)) ≡ Some v
        → (reads id f.values ≡ Some (Some v)) ⊎ ((p : Reference) × (v ≡ Ptr p) × (reads id f.pointers ≡ Some (Some p)))
    by_kind true c g = inl (by_value (reads id f.values) refl g)
    by_kind false true g = inr (by_pointer (reads id f.pointers) refl g)
    by_kind false false g = absurd (cc)

-- ---- constants

pub constant_read : (P : ℕ × Row → Type 0) (cs : Constants) (id : ℕ) (r : Row) → AllByRecursion P cs → reads id cs ≡ Some r → P (id, r)
constant_read P [] id r all h = absurd (cc)
constant_read P (c ∷ cs) id r (first, rest) h = by_test (c.0 == id) refl h (constant_read P cs id r rest)
  where
    by_test : (b : Bool) → (c.0 == id) ≡ b → (if b then Some c.1 else reads id cs) ≡ Some r → (reads id cs ≡ Some r → P (id, r)) → P (id, r)
    by_test true own g behind =
        let same : c.1 ≡ r = cc in
        subst (λ (x : Row). P (id, x)) same (subst (λ (k : ℕ). P (k, c.1)) (eqb-true c.0 id own) first)
    by_test false other g behind = behind g

-- ---- undefined values

undefined_rule : (op : ℕ) → op ≡ 1 → rule_of op ≡ Memory Undef
unfolding memory_rule
undefined_rule op is = rw is refl

undefined_kept : (k : Known) (p : Placed) → KeepsBody k p → p.inst.op ≡ 1 → KeepsUndef k p.inst
undefined_kept k p kept op = subst (KeepsRule k p) (undefined_rule p.inst.op op) kept.1

sized : (d r : Bool) → d ≡ true → r ≡ false → (d && not r) ≡ true
sized true false h g = refl
sized true true h g = absurd (cc)
sized false r h g = absurd (cc)

-- the type of an OpUndef is one of data without a runtime array
undefined_sized : (a : Accepted) → IsAccepted a → IsValid a → (i : Inst) → Contains a.insts i → i.op ≡ 1 → is_sized_data a.types i.ty ≡ true
undefined_sized a is valid i at op = by_place (place_of a.insts i at)
  where
    front_sized : (front later : List Inst) → before_functions a.insts ≡ front ++ i ∷ later → is_sized_data a.types i.ty ≡ true
    front_sized front later place =
        let kept = kept_at a.insts [] front later i (subst (λ (xs : List Inst). type_breaches a.insts [] xs ≡ []) place valid.declared) in
        let early : is_sized_data (types_in a.insts front) i.ty ≡ true = undef_is_sized a.insts (types_in a.insts front) i op kept in
        let parts = and_parts (is_data (form_of (types_in a.insts front) i.ty)) (not (has_runtime (types_in a.insts front) i.ty)) early in
        let plain : has_runtime (types_in a.insts front) i.ty ≡ false = not-true (has_runtime (types_in a.insts front) i.ty) parts.1 in
        sized (is_data (form_of a.types i.ty)) (has_runtime a.types i.ty) (data_later a is valid front later i place i.ty parts.0) (plain_later a is valid front later i place i.ty parts.0 plain)

    by_place : Stands (before_functions a.insts) a.insts (drop (length (before_functions a.insts)) a.insts) i → is_sized_data a.types i.ty ≡ true
    by_place (inl (front, later, e)) = front_sized front later e
    by_place (inr there) =
        let k : Known = known_of a.types a.constants a.insts in
        let all = each_behind k (λ (j : Inst). j.op ≡ 1 → KeepsUndef k j) (undefined_kept k) a.insts valid.rules in
        each_contained (λ (j : Inst). j.op ≡ 1 → KeepsUndef k j) (drop (length (before_functions a.insts)) a.insts) i all there op

-- ---- instructions

-- what defines an id is one of the instructions, and its result is the id
pub record Defines (insts : List Inst) (id : ℕ) (i : Inst) : Type 0 where
  pub there : Contains insts i
  pub named : i.id ≡ id

found_there : (insts : List Inst) (id : ℕ) (i : Inst) → find (has_result id) insts ≡ Some i → Defines insts id i
found_there [] id i h = absurd (cc)
found_there (j ∷ insts) id i h = by_test (j.id == id) refl h (found_there insts id i)
  where
    by_test : (b : Bool) → (j.id == id) ≡ b → (if b then Some j else find (has_result id) insts) ≡ Some i → (find (has_result id) insts ≡ Some i → Defines insts id i) → Defines (j ∷ insts) id i
    by_test true own g behind =
        let same : j ≡ i = cc in
        record { there = (0, omega arith, same); named = sym (ap (λ (x : Inst). x.id) same) ∙ eqb-true j.id id own }
    by_test false other g behind =
        let rest : Defines insts id i = behind g in
        let lt : rest.there.0 < length insts = rest.there.1 in
        record { there = (suc rest.there.0, omega arith, rest.there.2); named = rest.named }

pub defines : (insts : List Inst) (id : ℕ) (i : Inst) → defining insts id ≡ Some i → Defines insts id i
defines insts id i h = found_there insts id i (found_of_defining insts id i h)

type_is : (i : Inst) (ty : ℕ) → type_in i ≡ Some ty → i.ty ≡ ty
type_is i ty h = by_test (i.ty == 0) h
  where
    by_test : (b : Bool) → (if b then None else Some i.ty) ≡ Some ty → i.ty ≡ ty
    by_test true g = absurd (cc)
    by_test false g = cc

-- ---- what an id stands for, by its meaning

module _ (a : Accepted) (is : IsAccepted a) (valid : IsValid a) (f : Held) (shaped : AreShaped a f) (depth id ty : ℕ) (v : Value) (type : result_type a.insts id ≡ Some ty) where
  register_shaped : register_value f id ≡ Some v → IsShaped a ty v
  register_shaped h = by_read (register_read f id v h)
    where
      by_read : (reads id f.values ≡ Some (Some v)) ⊎ ((p : Reference) × (v ≡ Ptr p) × (reads id f.pointers ≡ Some (Some p))) → IsShaped a ty v
      by_read (inl there) = shaped_data a valid ty v (shaped.values id ty v there type)
      by_read (inr (p, same, there)) = subst (IsShaped a ty) (sym same) (shaped_pointer a valid ty p (shaped.pointers id ty p there type))

  module _ (s : Stand) (own : Defines a.insts id s.inst) (typed : s.inst.ty ≡ ty) (defined : defining a.insts id ≡ Some s.inst) where
    constant_shaped : option_map (tree_of a.types) (reads id a.constants) ≡ Some v → IsShaped a ty v
    constant_shaped h = by_row (reads id a.constants) refl h
      where
        by_row : (o : Option Row) → reads id a.constants ≡ o → option_map (tree_of a.types) o ≡ Some v → IsShaped a ty v
        by_row None e g = absurd (cc)
        by_row (Some r) e g =
            let same : tree_of a.types r ≡ v = cc in
            let constant : IsConstantOf a.types a.insts no_roots (id, r) = constant_read (IsConstantOf a.types a.insts no_roots) a.constants id r (valid.shapes no_roots) e in
            let row_type : Some s.inst.ty ≡ Some r.ty = sym (ap (option_map (λ (i : Inst). i.ty)) defined) ∙ constant.ty in
            let row_is : s.inst.ty ≡ r.ty = cc in
            subst (IsShaped a ty) same (shaped_data a valid ty (tree_of a.types r) (subst (λ (k : ℕ). HasShape a.types no_roots k (tree_of a.types r)) (sym row_is ∙ typed) constant.row.shape))

    undefined_shaped : (t : ℕ) → s.inst.op ≡ 1 → s.inst.ty ≡ t → blank_of a.types 0 t ≡ v → IsShaped a ty v
    undefined_shaped t op named same =
        let sized_type : is_sized_data a.types s.inst.ty ≡ true = undefined_sized a is valid s.inst own.there op in
        let data_is : is_data (form_of a.types s.inst.ty) ≡ true = (and_parts (is_data (form_of a.types s.inst.ty)) (not (has_runtime a.types s.inst.ty)) sized_type).0 in
        let target : may_be_target a.types s.inst.ty ≡ true = sized_target a.types valid.types valid.lengths s.inst.ty sized_type in
        let shape : HasShape a.types no_roots s.inst.ty (blank_of a.types 0 s.inst.ty) = blank_shape a.types 0 valid.types s.inst.ty target data_is in
        let value : blank_of a.types 0 s.inst.ty ≡ v = ap (blank_of a.types 0) named ∙ same in
        subst (λ (k : ℕ). IsShaped a k v) typed (subst (IsShaped a s.inst.ty) value (shaped_data a valid s.inst.ty (blank_of a.types 0 s.inst.ty) shape))

    -- the class of a variable is that of its pointer's type
    variable_shaped : (r : Root) → s.inst.op ≡ 59 → root_id r ≡ id → pointer_to r ≡ v → IsShaped a ty v
    variable_shaped r op root same =
        let own_class : HasClass a s.inst = class_known a is valid s.inst own.there op in
        let declared : IsDeclared a s.inst = variable_declared a is valid s.inst own.there op in
        let type : pointee (form_of a.types s.inst.ty) ≡ Some own_class.pointed = ap pointee own_class.type in
        let one : declared.pointed ≡ own_class.pointed = let both : Some declared.pointed ≡ Some own_class.pointed = sym declared.type ∙ type in cc in
        let found : IsTarget a s.inst.ty r own_class.pointed.target
        = record {
          pointed = own_class.pointed;
          type = type;
          class = ap (storage_class a.insts) root ∙ ap (option_and_then (λ (i : Inst). literal_operand i 0)) defined ∙ own_class.class;
          target = ap (λ (k : ℕ). reads k (targets_of (variables a))) (root ∙ sym own.named) ∙ declared.target ∙ ap (λ (p : Pointed). Some p.target) one;
        } in
        let named : target_in a s.inst.ty r ≡ Some own_class.pointed.target = target_from a s.inst.ty r own_class.pointed.target found in
        let shape : HasShape a.types (target_in a s.inst.ty) s.inst.ty (pointer_to r)
        = whole_shape a.types valid.types (target_in a s.inst.ty) s.inst.ty own_class.pointed.class own_class.pointed.target r own_class.type named in
        subst (λ (k : ℕ). IsShaped a k v) typed (subst (IsShaped a s.inst.ty) same (shaped_pointer a valid s.inst.ty (record { root = r; path = [] }) shape))

    module_id : root_id (module_root a.insts id) ≡ id
    module_id = by_class (option_map_or is_own (storage_class a.insts id) false)
      where
        by_class : (b : Bool) → root_id (if b then Private id else Shared id) ≡ id
        by_class true = refl
        by_class false = refl

    local_shaped : (function : ℕ) → meaning_at s ≡ Variable function → (b : Bool) → (if b then Some (pointer_to (Local depth id)) else None) ≡ Some v → IsShaped a ty v
    local_shaped function meant true g = let same : pointer_to (Local depth id) ≡ v = cc in variable_shaped (Local depth id) (local_opcode s function meant) refl same
    local_shaped function meant false g = absurd (cc)

    by_meaning : (m : Meaning) → meaning_at s ≡ m → value_by a f depth id m ≡ Some v → IsShaped a ty v
    by_meaning TypeDefinition meant h = absurd (cc)
    by_meaning Constant meant h = constant_shaped h
    by_meaning (Undefined t) meant h = let same : blank_of a.types 0 t ≡ v = cc in undefined_shaped t (undefined_opcode s t meant) (undefined_type s t meant) same
    by_meaning ModuleVariable meant h = let same : pointer_to (module_root a.insts id) ≡ v = cc in variable_shaped (module_root a.insts id) (module_opcode s meant) module_id same
    by_meaning (Variable function) meant h = local_shaped function meant (f.plan.function == function) h
    by_meaning (Register function) meant h = register_shaped h
    by_meaning (Label function) meant h = absurd (cc)
    by_meaning Function meant h = absurd (cc)
    by_meaning Other meant h = absurd (cc)

  by_stand : (o : Option Stand) → stand_of a.insts id ≡ o → option_and_then (value_by a f depth id) (option_map meaning_at o) ≡ Some v → IsShaped a ty v
  by_stand None e h = absurd (cc)
  by_stand (Some s) e h =
      let defined : defining a.insts id ≡ Some s.inst = sym (stand_defines a.insts id) ∙ ap (option_map (λ (t : Stand). t.inst)) e in
      let typed : type_in s.inst ≡ Some ty = sym (ap (option_and_then type_in) defined) ∙ type in
      by_meaning s (defines a.insts id s.inst defined) (type_is s.inst ty typed) defined (meaning_at s) refl h

  pub operand_shaped : value_of a f depth id ≡ Some v → IsShaped a ty v
  unfolding value_of
  operand_shaped h = by_stand (stand_of a.insts id) refl h
