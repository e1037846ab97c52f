-- A pointer that an operand stands for names a variable that is there.
use Rattle.std.proofs.Common.{◌≡◌, ◌⊎◌, ◌∙◌, inl, inr, ℕ, zero, suc, ◌==◌, ◌||◌, Bool, true, false, List, [], ◌∷◌, drop, length, map, Option, Some, None, slice_get, refl, sym, ap, subst, arith}
use Rattle.std.proofs.lemmas.Bool.{both_ways, eq-eqb, eqb-true}
use Rattle.std.specs.Prelude.{if◌then◌else◌}
use Rattle.std.specs.List.{AllByRecursion, Contains, cons_option, filter, filter_map}
use Rattle.std.specs.Option.{is_some, option_and_then, option_map_or}
use Rattle.spv_base.specs.Entries.{reads}
use Rattle.spv_base.specs.declared.instructions.Inst.{Inst}
use Rattle.spv_base.specs.declared.values.Pointer.{Pointer}
use Rattle.spv_base.specs.declared.values.Root.{Root}
use Rattle.spv_base.specs.declared.values.Root.TheVariants.{Shared, Private, Local}
use Rattle.spv_base.specs.declared.values.Value.{Value, Ptr}
use Rattle.spv_index.specs.Definitions.{before_functions, defining, result_type}
use Rattle.spv_index.specs.Operands.{literal_operand}
use Rattle.spv_types.specs.declared.queries.Pointed.{Pointed}
use Rattle.spv_types.specs.Queries.{pointee}
use Rattle.spv_types.specs.Rules.{is_class}
use Rattle.spv_types.specs.Types.{Types, form_of}
use Rattle.spv_valid.specs.Acceptance.{Accepted, IsAccepted}
use Rattle.spv_valid.specs.Meanings.{meaning_of}
use Rattle.spv_valid.specs.Validity.{IsValid}
use Rattle.spv_valid.specs.declared.meanings.Meaning.{Meaning}
use Rattle.spv_valid.specs.declared.meanings.Meaning.TheVariants.{TypeDefinition, Constant, Undefined, ModuleVariable, Variable, Register, Label, Function, Other}
use Rattle.spv_frame.specs.Frames.{Held as Frame}
use Rattle.spv_initial.specs.Start.{variables}
use Rattle.spv_initial.specs.Values.{initialized, local_value}
use Rattle.spv_initial.specs.Variables.{declared_by, declared_in, variable_of}
use Rattle.spv_initial.specs.declared.variables.Declared.{Declared}
use Rattle.spv_mem.specs.Blanks.{blank_of}
use Rattle.spv_operands.specs.Operands.{pointer_of}
use Rattle.spv_operands.specs.Shapes.{AreShaped}
use Rattle.spv_operands.specs.Values.{is_own, module_root, pointer_to, storage_class, value_by, value_of}
use Rattle.spv_operands.proofs.Exports.{IsLocalVariable, IsModuleVariable, IsVariableAt, behind_variable, front_variable, local_meant, module_meant, Defines, defines, register_read, constant_plain, blank_plain, data_plain, IsTyped, variable_by, variable_typed}
use Rattle.spv_state.specs.Roots.{IsRoot, IsRooted, ids_at, ids_with, is_shared, local_ids}
use Rattle.spv_state.specs.Variables.{function_in, is_variable_of, variables_of}
use Rattle.spv_state.proofs.RootLemmas.{contains_kept, contains_mapped, ids_kept}
use Rattle.spv_base.proofs.Exports.{contains_later, out_pointer}
use Rattle.spv_base.specs.Options.{holds}

-- ---- pointers

pub pointer_own : (p q : Pointer) → pointer_of (Ptr p) ≡ Some q → p ≡ q
pointer_own p q h = let whole : pointer_of (Ptr p) ≡ Some p = rw (out_pointer p) refl in cc

root_own : (r : Root) (v : Value) (q : Pointer) → pointer_to r ≡ v → pointer_of v ≡ Some q → r ≡ q.root
root_own r v q same is = ap (λ (p : Pointer). p.root) (pointer_own (record { root = r; path = [] }) q (ap pointer_of same ∙ is))

-- ---- variables among those of a module

declared_among : (ts : Types) (insts : List Inst) (i : Inst) (d : Declared) → Contains insts i → declared_by ts i ≡ Some d → Contains (declared_in ts insts) d
unfolding declared_in
declared_among ts [] i d (k, lt, is) by = absurd (omega arith)
declared_among ts (j ∷ insts) i d (zero, lt, is) by = let own : declared_by ts j ≡ Some d = ap (declared_by ts) is ∙ by in rw own (0, omega arith, refl)
declared_among ts (j ∷ insts) i d (suc k, lt, is) by = by_inst (declared_by ts j) (declared_among ts insts i d (k, omega arith, is) by)
  where
    by_inst : (o : Option Declared) → Contains (filter_map (declared_by ts) insts) d → Contains (cons_option o (filter_map (declared_by ts) insts)) d
    by_inst None there = there
    by_inst (Some e) there = contains_later e d (filter_map (declared_by ts) insts) there

-- the variable of the OpVariable with an id
record IsAmong (a : Accepted) (id class : ℕ) : Type 0 where
  declared : Declared
  there : Contains (variables a) declared
  id_is : declared.id ≡ id
  class_is : declared.class ≡ class

variable_among : (a : Accepted) (is : IsAccepted a) (valid : IsValid a) (id : ℕ) (i : Inst) (p : Pointed) → defining a.insts id ≡ Some i → i.op ≡ 59 → ((t : IsTyped a i) → p ≡ t.pointed) → IsAmong a id p.class
variable_among a is valid id i p defined op same =
    let own : Defines a.insts id i = defines a.insts id i defined in
    let typed : IsTyped a i = variable_typed a is valid i own.there op in
    record {
      declared = variable_of i typed.pointed;
      there = declared_among a.types a.insts i (variable_of i typed.pointed) own.there (variable_by a valid i own.there op typed.pointed (ap pointee typed.type) typed.may);
      id_is = own.named;
      class_is = ap (λ (x : Pointed). x.class) (sym (same typed));
    }

among_with : (a : Accepted) (test : ℕ → Bool) (id class : ℕ) → IsAmong a id class → test class ≡ true → Contains (ids_with test a) id
among_with a test id class m h =
    let kept = contains_kept (λ (d : Declared). test d.class) (variables a) m.declared m.there (ap test m.class_is ∙ h) in
    subst (Contains (ids_with test a)) m.id_is (contains_mapped (λ (d : Declared). d.id) (filter (λ (d : Declared). test d.class) (variables a)) m.declared kept)

-- ---- frames

-- at a depth a frame has the variables of the function of this one
abbrev pub HasFrame : Accepted → List Frame → ℕ → Frame → Type 0
HasFrame a fs depth f = ids_at a fs depth ≡ local_ids a f.plan.function

pub frame_there : (a : Accepted) (fs : List Frame) (depth : ℕ) (f : Frame) → slice_get fs depth ≡ Some f → HasFrame a fs depth f
frame_there a fs depth f here = ap (λ (o : Option Frame). option_map_or (λ (g : Frame). local_ids a g.plan.function) o []) here

-- ---- variables outside functions

-- a class that is neither Function nor one that each invocation has for itself is shared
other_shared : (b1 b2 b4 b6 b7 b9 b12 : Bool) → (((b1 || b2) || (b4 || b6)) || ((b7 || b9) || b12)) ≡ true → b7 ≡ false → (b1 || b6) ≡ false → ((b2 || b12) || (b9 || b4)) ≡ true
other_shared b1 true b4 b6 b7 b9 b12 h other own = refl
other_shared b1 false b4 b6 b7 b9 true h other own = refl
other_shared b1 false b4 b6 b7 true false h other own = refl
other_shared b1 false true b6 b7 false false h other own = refl
other_shared true false false b6 b7 false false h other own = absurd (cc)
other_shared false false false true b7 false false h other own = absurd (cc)
other_shared false false false false true false false h other own = absurd (cc)
other_shared false false false false false false false h other own = absurd (cc)

class_shared : (class : ℕ) → is_class class ≡ true → (class == 7) ≡ false → is_own class ≡ false → is_shared class ≡ true
class_shared class h other own = other_shared (class == 1) (class == 2) (class == 4) (class == 6) (class == 7) (class == 9) (class == 12) h other own

module _ (a : Accepted) (is : IsAccepted a) (valid : IsValid a) (fs : List Frame) (depth id : ℕ) where
  module_rooted : meaning_of a.insts id ≡ Some ModuleVariable → IsRoot a fs depth (module_root a.insts id)
  module_rooted meant = subst (λ (o : Option ℕ). IsRoot a fs depth (if option_map_or is_own o false then Private id else Shared id)) (sym class_is) (by_class (is_own v.pointed.class) refl)
    where
      m : IsVariableAt a id (before_functions a.insts)
      m = module_meant a is id meant

      v : IsModuleVariable a m.inst
      v = front_variable a is valid m.inst m.there m.op

      class_is : storage_class a.insts id ≡ Some v.pointed.class
      class_is = ap (option_and_then (λ (i : Inst). literal_operand i 0)) m.defines ∙ v.class

      among : IsAmong a id v.pointed.class
      among = variable_among a is valid id m.inst v.pointed m.defines m.op (λ t. let one : pointee (form_of a.types m.inst.ty) ≡ Some v.pointed = ap pointee v.type in let other : pointee (form_of a.types m.inst.ty) ≡ Some t.pointed = ap pointee t.type in cc)

      by_class : (b : Bool) → is_own v.pointed.class ≡ b → IsRoot a fs depth (if b then Private id else Shared id)
      by_class true e = ∣ among_with a is_own id v.pointed.class among e ∣₁
      by_class false e = ∣ among_with a is_shared id v.pointed.class among (class_shared v.pointed.class v.known v.other e) ∣₁

  -- ---- and those of functions

  local_rooted : (f : Frame) (function : ℕ) → HasFrame a fs depth f → meaning_of a.insts id ≡ Some (Variable function) → f.plan.function ≡ function → IsRoot a fs depth (Local depth id)
  local_rooted f function here meant same = (omega arith, ∣ subst (λ (ks : List ℕ). Contains ks id) (sym ids_are) there ∣₁)
    where
      m : IsVariableAt a id (drop (length (before_functions a.insts)) a.insts)
      m = local_meant a is id function meant

      v : IsLocalVariable a m.inst
      v = behind_variable a valid m.inst m.there m.op

      among : IsAmong a id v.pointed.class
      among = variable_among a is valid id m.inst v.pointed m.defines m.op (λ t. let one : pointee (form_of a.types m.inst.ty) ≡ Some v.pointed = ap pointee v.type in let other : pointee (form_of a.types m.inst.ty) ≡ Some t.pointed = ap pointee t.type in cc)

      ids_are : ids_at a fs depth ≡ local_ids a function
      ids_are = here ∙ ap (local_ids a) same

      each_local : (ds : List Declared) → AllByRecursion (λ (d : Declared). is_some (local_value a d) ≡ (d.class == 7)) ds
      each_local [] = tt
      each_local (d ∷ ds) = (by_test (d.class == 7) (initialized a d), each_local ds)
        where
          by_test : (b : Bool) (x : Value) → is_some (if b then Some x else None) ≡ b
          by_test true x = refl
          by_test false x = refl

      own_variable : is_variable_of a function among.declared ≡ true
      own_variable =
          ap (λ (k : ℕ). holds function (option_and_then function_in (meaning_of a.insts k))) among.id_is
          ∙ ap (λ (o : Option Meaning). holds function (option_and_then function_in o)) meant ∙ eq-eqb function function refl

      there : Contains (local_ids a function) id
      there =
          let ours = contains_kept (is_variable_of a function) (variables a) among.declared among.there own_variable in
          let seven : (among.declared.class == 7) ≡ true = eq-eqb among.declared.class 7 (among.class_is ∙ v.class) in
          let kept = contains_kept (λ (d : Declared). d.class == 7) (variables_of a function) among.declared ours seven in
          let mapped = contains_mapped (λ (d : Declared). d.id) (filter (λ (d : Declared). d.class == 7) (variables_of a function)) among.declared kept in
          subst (λ (ks : List ℕ). Contains ks id) (sym (ids_kept (local_value a) (λ (d : Declared). d.class == 7) (variables_of a function) (each_local (variables_of a function))))
          (subst (Contains (map (λ (d : Declared). d.id) (filter (λ (d : Declared). d.class == 7) (variables_of a function)))) among.id_is mapped)

  -- ---- operands

  -- where a register of a value holds no pointer
  pub value_root : (f : Frame) → HasFrame a fs depth f → IsRooted a fs depth f → (v : Value) → ((function : ℕ) → meaning_of a.insts id ≡ Some (Register function) → reads id f.values ≡ Some (Some v) → is_some (pointer_of v) ≡ false)
      → (q : Pointer) → value_of a f depth id ≡ Some v → pointer_of v ≡ Some q → IsRoot a fs depth q.root
  unfolding value_of
  value_root f here rooted v holds q value pointer = by_some (meaning_of a.insts id) refl value
    where
      not_plain : is_some (pointer_of v) ≡ false → IsRoot a fs depth q.root
      not_plain plain = absurd (both_ways (is_some (pointer_of v)) plain (ap is_some pointer))

      by_function : (function : ℕ) → meaning_of a.insts id ≡ Some (Variable function) → (b : Bool) → (f.plan.function == function) ≡ b → (if b then Some (pointer_to (Local depth id)) else None) ≡ Some v → IsRoot a fs depth q.root
      by_function function meant true e h = subst (IsRoot a fs depth) (root_own (Local depth id) v q (let same : pointer_to (Local depth id) ≡ v = cc in same) pointer) (local_rooted f function here meant (eqb-true f.plan.function function e))
      by_function function meant false e h = absurd (cc)

      by_register : (function : ℕ) → meaning_of a.insts id ≡ Some (Register function) → (reads id f.values ≡ Some (Some v)) ⊎ ((p : Pointer) × (v ≡ Ptr p) × (reads id f.pointers ≡ Some (Some p))) → IsRoot a fs depth q.root
      by_register function meant (inl there) = not_plain (holds function meant there)
      by_register function meant (inr (p, same, there)) = subst (λ (x : Pointer). IsRoot a fs depth x.root) (pointer_own p q (ap pointer_of (sym same) ∙ pointer)) (rooted.registers id p there)

      by_meaning : (m : Meaning) → meaning_of a.insts id ≡ Some m → value_by a f depth id m ≡ Some v → IsRoot a fs depth q.root
      by_meaning TypeDefinition meant h = absurd (cc)
      by_meaning Constant meant h = not_plain (constant_plain a id v ∣ valid ∣₁ (sym h))
      by_meaning (Undefined t) meant h = let same : blank_of a.types 0 t ≡ v = cc in not_plain (ap (λ (x : Value). is_some (pointer_of x)) (sym same) ∙ blank_plain a.types 0 t)
      by_meaning ModuleVariable meant h = let same : pointer_to (module_root a.insts id) ≡ v = cc in subst (IsRoot a fs depth) (root_own (module_root a.insts id) v q same pointer) (module_rooted meant)
      by_meaning (Variable function) meant h = by_function function meant (f.plan.function == function) refl h
      by_meaning (Register function) meant h = by_register function meant (register_read f id v h)
      by_meaning (Label function) meant h = absurd (cc)
      by_meaning Function meant h = absurd (cc)
      by_meaning Other meant h = absurd (cc)

      by_some : (o : Option Meaning) → meaning_of a.insts id ≡ o → option_and_then (value_by a f depth id) o ≡ Some v → IsRoot a fs depth q.root
      by_some None e h = absurd (cc)
      by_some (Some m) e h = by_meaning m e h

  pub operand_root : (f : Frame) → slice_get fs depth ≡ Some f → IsRooted a fs depth f → AreShaped a f → (ty : ℕ) → result_type a.insts id ≡ Some ty → (v : Value) (q : Pointer) → value_of a f depth id ≡ Some v → pointer_of v ≡ Some q
      → IsRoot a fs depth q.root
  operand_root f here rooted shaped ty type v q value pointer =
      value_root f (frame_there a fs depth f here) rooted v (λ function meant read. data_plain a.types valid.types ty v (shaped.values id ty v read type)) q value pointer
