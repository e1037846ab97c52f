-- Roots of variables by their storage classes: one outside functions is there for each frame, and one of the class StorageBuffer is outside
-- functions, since a function's variables are of the class Function.
use Rattle.std.proofs.Common.{◌≡◌, ◌∙◌, ℕ, ◌<◌, Bool, true, false, cond, List, [], ◌∷◌, drop, length, Option, Some, None, slice_get, refl, sym, ap, arith}
use Rattle.std.proofs.Math.Logic.{∥∥₁_elim}
use Rattle.std.proofs.Props.{props}
use Rattle.std.proofs.lemmas.Bool.{eqb-true}
use Rattle.std.specs.List.{AllByRecursion, Contains, cons_option, filter, filter_map}
use Rattle.std.specs.Option.{option_and_then, option_map_or}
use Rattle.spv_base.specs.Options.{holds}
use Rattle.spv_base.specs.Variables.{root_id}
use Rattle.spv_base.specs.declared.instructions.Inst.{Inst}
use Rattle.spv_base.specs.declared.values.Root.{Root}
use Rattle.spv_base.specs.declared.values.Root.TheVariants.{Shared, Private, Local}
use Rattle.spv_base.specs.declared.values.Value.{Value}
use Rattle.spv_index.specs.Definitions.{before_functions}
use Rattle.spv_index.specs.Operands.{literal_operand}
use Rattle.spv_valid.specs.Acceptance.{Accepted, IsAccepted}
use Rattle.spv_valid.specs.Meanings.{meaning_of}
use Rattle.spv_valid.specs.Validity.{IsValid}
use Rattle.spv_valid.specs.declared.meanings.Meaning.{Meaning}
use Rattle.spv_valid.specs.declared.meanings.Meaning.TheVariants.{TypeDefinition, Constant, Undefined, ModuleVariable, Variable, Register, Label, Function, Other}
use Rattle.spv_frame.specs.Frames.{Held as Frame}
use Rattle.spv_initial.specs.Start.{root, variables}
use Rattle.spv_initial.specs.Values.{local_value}
use Rattle.spv_initial.specs.declared.variables.Declared.{Declared}
use Rattle.spv_operands.specs.Values.{storage_class}
use Rattle.spv_operands.proofs.Exports.{IsLocalVariable, IsVariableAt, behind_variable, each_contained, local_meant}
use Rattle.spv_state.specs.Roots.{IsRoot, ids_at, ids_in, local_ids}
use Rattle.spv_state.specs.Variables.{function_in, is_variable_of}

-- a variable outside functions is there whatever frames there are
pub root_anywhere : (a : Accepted) (fs : List Frame) (depth : ℕ) (r : Root) → IsRoot a [] 0 r → IsRoot a fs depth r
root_anywhere a fs depth (Shared id) h = h
root_anywhere a fs depth (Private id) h = h
root_anywhere a fs depth (Local at id) h = absurd (∥∥₁_elim h.1 (hlevel props) (λ (c : Contains [] id). let lt : c.0 < 0 = c.1 in omega (arith, lt)))

-- ---- the variables of functions

-- a variable of a function has the storage class Function, 7
abbrev IsLocal : Accepted → ℕ → Type 0
IsLocal a id = storage_class a.insts id ≡ Some 7

one_class : (o : Option ℕ) (m n : ℕ) → o ≡ Some m → o ≡ Some n → m ≡ n
one_class o m n first second = let both : Some m ≡ Some n = sym first ∙ second in cc

named_function : (function : ℕ) (o : Option Meaning) → holds function (option_and_then function_in o) ≡ true → o ≡ Some (Variable function)
named_function function None h = absurd (cc)
named_function function (Some TypeDefinition) h = absurd (cc)
named_function function (Some Constant) h = absurd (cc)
named_function function (Some (Undefined ty)) h = absurd (cc)
named_function function (Some ModuleVariable) h = absurd (cc)
named_function function (Some (Variable other)) h = ap (λ (k : ℕ). Some (Variable k)) (eqb-true other function h)
named_function function (Some (Register other)) h = absurd (cc)
named_function function (Some (Label other)) h = absurd (cc)
named_function function (Some Function) h = absurd (cc)
named_function function (Some Other) h = absurd (cc)

module _ (a : Accepted) (is : IsAccepted a) (valid : IsValid a) where
  meant_local : (function id : ℕ) → meaning_of a.insts id ≡ Some (Variable function) → IsLocal a id
  meant_local function id meant =
      let m : IsVariableAt a id (drop (length (before_functions a.insts)) a.insts) = local_meant a is id function meant in
      let v : IsLocalVariable a m.inst = behind_variable a valid m.inst m.there m.op in
      ap (option_and_then (λ (i : Inst). literal_operand i 0)) m.defines ∙ v.literal ∙ ap (λ (n : ℕ). Some n) v.class

  each_local : (function : ℕ) (ds : List Declared) → AllByRecursion (IsLocal a) (ids_in (filter_map (λ (d : Declared). root d (local_value a d)) (filter (is_variable_of a function) ds)))
  each_local function [] = tt
  each_local function (d ∷ ds) = by_test (is_variable_of a function d) refl (each_local function ds)
    where
      rest : List Declared
      rest = filter (is_variable_of a function) ds

      by_value : (o : Option Value) → IsLocal a d.id → AllByRecursion (IsLocal a) (ids_in (filter_map (λ (x : Declared). root x (local_value a x)) rest))
          → AllByRecursion (IsLocal a) (ids_in (cons_option (root d o) (filter_map (λ (x : Declared). root x (local_value a x)) rest)))
      by_value None own more = more
      by_value (Some v) own more = (own, more)

      by_test : (b : Bool) → is_variable_of a function d ≡ b → AllByRecursion (IsLocal a) (ids_in (filter_map (λ (x : Declared). root x (local_value a x)) rest))
          → AllByRecursion (IsLocal a) (ids_in (filter_map (λ (x : Declared). root x (local_value a x)) (cond b (d ∷ rest) rest)))
      by_test true e more = by_value (local_value a d) (meant_local function d.id (named_function function (meaning_of a.insts d.id) e)) more
      by_test false e more = more

  local_class : (fs : List Frame) (at id : ℕ) → Contains (ids_at a fs at) id → IsLocal a id
  local_class fs at id there = by_frame (slice_get fs at) there
    where
      by_frame : (o : Option Frame) → Contains (option_map_or (λ (f : Frame). local_ids a f.plan.function) o []) id → IsLocal a id
      by_frame None (k, lt, e) = absurd (omega (arith, lt))
      by_frame (Some f) c = each_contained (IsLocal a) (local_ids a f.plan.function) id (each_local f.plan.function (variables a)) c

  -- a variable of the class StorageBuffer, 12, is outside functions
  pub buffer_root : (fs : List Frame) (depth : ℕ) (r : Root) → IsRoot a fs depth r → storage_class a.insts (root_id r) ≡ Some 12 → IsRoot a [] 0 r
  buffer_root fs depth (Shared id) h class = h
  buffer_root fs depth (Private id) h class = h
  buffer_root fs depth (Local at id) h class = absurd (∥∥₁_elim h.1 (hlevel props) (λ (c : Contains (ids_at a fs at) id). apart (local_class fs at id c)))
    where
      apart : IsLocal a id → ⊥
      apart seven = omega (arith, one_class (storage_class a.insts id) 7 12 seven class)
