-- What one instruction makes of a state, and what is so in each state of the walk over a module's constants.
use Rattle.std.proofs.Common.{◌≡◌, ◌⊎◌, ◌∙◌, ℕ, ◌==◌, Bool, true, false, List, [], ◌∷◌, ◌++◌, drop, Option, Some, None, inl, inr, refl, sym, ap, arith}
use Rattle.std.proofs.lemmas.Bool.{eqb-true, ne_eqb}
use Rattle.std.specs.Prelude.{nat_lt, not, ◌&&◌, if◌then◌else◌, unwrap_or}
use Rattle.std.specs.Option.{is_some, option_and_then, option_map, option_map_or}
use Rattle.spv_index.specs.Operands.{id_operand}
use Rattle.spv_base.specs.declared.causes.Refusal.{Refusal}
use Rattle.spv_base.specs.declared.instructions.Inst.{Inst}
use Rattle.spv_types.specs.declared.forms.Form.{Form}
use Rattle.spv_types.specs.declared.forms.Form.TheVariants.{Void, Bool as Boolean, Int, Vector, Array, Runtime, Struct, Pointer, Function}
use Rattle.spv_ops.specs.declared.op.TheConstants.{TYPE_VOID, TYPE_BOOL, TYPE_INT, TYPE_VECTOR, TYPE_ARRAY, TYPE_RUNTIME_ARRAY, TYPE_STRUCT, TYPE_POINTER, TYPE_FUNCTION}
use Rattle.spv_types.specs.Constants.{is_constant}
use Rattle.spv_index.specs.Operands.{id_operand, literal_operand}
use Rattle.spv_types.specs.Rules.{is_data, is_type, keeps_other, keeps_rules as keeps_types}
use Rattle.spv_types.specs.Types.{IsUnset, Types, form_of, lengthened as with_size, with_length}
use Rattle.spv_types.specs.Typing.{defined_form, function_form, ids_in, integer_form, members_from, of_both, pointer_form, runtime_form, struct_form, vector_form}
use Rattle.spv_consts.specs.Context.{Context}
use Rattle.spv_consts.specs.State.{State, is_next}
use Rattle.spv_consts.specs.Lengths.{constant_length, is_unset, lengthened, with_array, with_length_if}
use Rattle.spv_consts.specs.Rules.{keeps_rules}
use Rattle.spv_consts.specs.Steps.{breaches_at, with_entry, left_out, passes_limit, after_one}

-- ---- forms

-- the test of an array without a length tells of each such array
pub not_unset : (o : Option Form) → is_unset o ≡ false → IsUnset o → ⊥
not_unset None h u = u
not_unset (Some Void) h u = u
not_unset (Some Boolean) h u = u
not_unset (Some (Int width sign)) h u = u
not_unset (Some (Vector component count)) h u = u
not_unset (Some (Array element None stride)) h u = cc
not_unset (Some (Array element (Some n) stride)) h u = u
not_unset (Some (Runtime element stride)) h u = u
not_unset (Some (Struct members block)) h u = u
not_unset (Some (Pointer class target)) h u = u
not_unset (Some (Function returns parameters)) h u = u

-- a form that was given a length has one, where it can have one, and is data where it was
pub sized_is_set : (n : ℕ) (f : Form) → IsUnset (Some (with_size n f)) → ⊥
sized_is_set n Void u = u
sized_is_set n Boolean u = u
sized_is_set n (Int width sign) u = u
sized_is_set n (Vector component count) u = u
sized_is_set n (Array element size stride) u = u
sized_is_set n (Runtime element stride) u = u
sized_is_set n (Struct members block) u = u
sized_is_set n (Pointer class target) u = u
sized_is_set n (Function returns parameters) u = u

pub sized_data : (n : ℕ) (f : Form) → is_data (Some (with_size n f)) ≡ is_data (Some f)
sized_data n f = grind arith

-- ---- kinds of instructions

-- no array without a length
abbrev IsSet : Option Form → Type 0
IsSet o = IsUnset o → ⊥

set_by_test : (b : Bool) (o p : Option Form) → IsSet o → IsSet p → IsSet (if b then o else p)
set_by_test true o p one other = one
set_by_test false o p one other = other

set_otherwise : (b : Bool) (o p : Option Form) → b ≡ false → IsSet p → IsSet (if b then o else p)
set_otherwise b o p fails other = rw fails other

set_both : {A B : Type 0} (make : A → B → Form) → ((x : A) (y : B) → IsSet (Some (make x y))) → (a : Option A) (b : Option B) → IsSet (of_both make a b)
set_both make each None b = λ u. u
set_both make each (Some x) None = λ u. u
set_both make each (Some x) (Some y) = each x y

set_map : {A : Type 0} (make : A → Form) → ((x : A) → IsSet (Some (make x))) → (a : Option A) → IsSet (option_map make a)
set_map make each None = λ u. u
set_map make each (Some x) = each x

-- an instruction that declares no array declares no array without a length
pub only_arrays_unset : (all : List Inst) (i : Inst) → (i.op == TYPE_ARRAY) ≡ false → IsUnset (defined_form all i) → ⊥
unfolding defined_form
only_arrays_unset all i h =
    set_by_test (i.op == TYPE_VOID) (Some Void) _ (λ u. u)
    (set_by_test (i.op == TYPE_BOOL) (Some Boolean) _ (λ u. u)
    (set_by_test (i.op == TYPE_INT) (integer_form i) _ (set_both Int (λ x y u. u) (literal_operand i 0) (literal_operand i 1))
    (set_by_test (i.op == TYPE_VECTOR) (vector_form i) _ (set_both Vector (λ x y u. u) (id_operand i 0) (literal_operand i 1))
    (set_otherwise (i.op == TYPE_ARRAY) _ _ h
    (set_by_test (i.op == TYPE_RUNTIME_ARRAY) (runtime_form all i) _ (set_map (λ element. Runtime element _) (λ x u. u) (id_operand i 0))
    (set_by_test (i.op == TYPE_STRUCT) (struct_form all i) _ (set_map (λ members. Struct members _) (λ x u. u) (members_from all i.id 0 i.operands))
    (set_by_test (i.op == TYPE_POINTER) (pointer_form i) _ (set_both Pointer (λ x y u. u) (literal_operand i 0) (id_operand i 1))
    (set_by_test (i.op == TYPE_FUNCTION) (function_form i) _ (set_both Function (λ x y u. u) (id_operand i 0) (ids_in (drop 1 i.operands))) (λ u. u)))))))))

no_form : (op : ℕ) (p q : Bool) → (if op == 59 then p else (if op == 1 then q else not (is_type op))) ≡ true → op ≡ TYPE_ARRAY → false ≡ true
no_form op p q h e = rw e at h

-- an array type has a form, where it keeps the rules of types
pub array_has_form : (all : List Inst) (ts : Types) (i : Inst) → keeps_types all ts i ≡ true → defined_form all i ≡ None → (i.op == TYPE_ARRAY) ≡ false
unfolding keeps_types
array_has_form all ts i h none = by_test (i.op == TYPE_ARRAY) refl
  where
    kept : keeps_other all ts i None ≡ true
    kept = rw none at h

    by_test : (b : Bool) → (i.op == TYPE_ARRAY) ≡ b → b ≡ false
    by_test true e = let clash : false ≡ true = no_form i.op _ _ kept (eqb-true i.op TYPE_ARRAY e) in absurd (cc)
    by_test false e = refl

not_test : (op n : ℕ) → is_constant op ≡ true → is_constant n ≡ false → (op == n) ≡ false
not_test op n h none = ne_eqb op n (λ same. let clash : true ≡ false = sym h ∙ ap is_constant same ∙ none in absurd (cc))

-- a constant is no array type
pub constant_no_array : (op : ℕ) → is_constant op ≡ true → (op == TYPE_ARRAY) ≡ false
constant_no_array op h = not_test op TYPE_ARRAY h refl

-- a constant declares no type
pub constant_no_type : (all : List Inst) (i : Inst) → is_constant i.op ≡ true → defined_form all i ≡ None
unfolding defined_form
constant_no_type all i h =
    rw (
      not_test i.op TYPE_VOID h refl,
      not_test i.op TYPE_BOOL h refl,
      not_test i.op TYPE_INT h refl,
      not_test i.op TYPE_VECTOR h refl,
      not_test i.op TYPE_ARRAY h refl,
      not_test i.op TYPE_RUNTIME_ARRAY h refl,
      not_test i.op TYPE_STRUCT h refl,
      not_test i.op TYPE_POINTER h refl,
      not_test i.op TYPE_FUNCTION h refl,
    ) refl

-- ---- one instruction

-- an instruction without a breach keeps the rules, and enters the state with the length that it sets
pub passed : (m : Context) (s : State) (i : Inst) → breaches_at m s i ≡ [] → (keeps_rules m s i ≡ true) × ((u : State) × (lengthened m s i ≡ Some u) × (after_one m s i ≡ with_entry m u i))
unfolding after_one breaches_at
passed m s i h = by_tests (keeps_rules m s i) (lengthened m s i) h
  where
    by_tests : (b : Bool) (o : Option State)
        → ◌++◌ {A = Refusal} (if b then [] else record { code = 14; word = i.word } ∷ []) (if option_map_or (λ t. passes_limit t i) o true then record { code = 18; word = i.word } ∷ [] else []) ≡ []
        → (b ≡ true) × ((u : State) × (o ≡ Some u) × ((if b && not (option_map_or (λ t. passes_limit t i) o true) then with_entry m (unwrap_or o s) i else left_out s i) ≡ with_entry m u i))
    by_tests false o e = absurd (cc)
    by_tests true None e = absurd (cc)
    by_tests true (Some u) e = by_limit (passes_limit u i) e
      where
        by_limit : (c : Bool) → ◌++◌ {A = Refusal} [] (if c then record { code = 18; word = i.word } ∷ [] else []) ≡ []
            → (true ≡ true) × ((v : State) × (Some u ≡ Some v) × ((if true && not c then with_entry m u i else left_out s i) ≡ with_entry m v i))
        by_limit true e = absurd (cc)
        by_limit false e = (refl, (u, refl, refl))

-- what declares no array sets no length
pub no_length : (m : Context) (s u : State) (i : Inst) → (i.op == TYPE_ARRAY) ≡ false → lengthened m s i ≡ Some u → u ≡ s
no_length m s u i h e = let same : Some s ≡ Some u = rw h at e in cc

-- an array type sets a length where it has none
pub array_length : (m : Context) (s u : State) (i : Inst) → (i.op == TYPE_ARRAY) ≡ true → keeps_rules m s i ≡ true → is_next s i.id ≡ true → lengthened m s i ≡ Some u
    → ((n : ℕ) × (u ≡ record s { types = with_length s.types i.id n })) ⊎ ((u ≡ s) × (IsUnset (form_of s.types i.id) → ⊥))
array_length m s u i array rules comes_next e = by_length (option_and_then (constant_length m s) (id_operand i 1)) (rw array at rules) (rw array at e)
  where
    by_unset : (n : ℕ) (b : Bool) → is_unset (form_of s.types i.id) ≡ b → (if b then record s { types = with_length s.types i.id n } else s) ≡ u
        → ((k : ℕ) × (u ≡ record s { types = with_length s.types i.id k })) ⊎ ((u ≡ s) × (IsUnset (form_of s.types i.id) → ⊥))
    by_unset n true unset same = inl (n, sym same)
    by_unset n false unset same = inr (sym same, not_unset (form_of s.types i.id) unset)

    by_limit : (n : ℕ) (b : Bool) → (if b then None else Some (with_array s i.id n)) ≡ Some u → ((k : ℕ) × (u ≡ record s { types = with_length s.types i.id k })) ⊎ ((u ≡ s) × (IsUnset (form_of s.types i.id) → ⊥))
    by_limit n true h = cc
    by_limit n false h = let same : with_array s i.id n ≡ u = cc in by_unset n (is_unset (form_of s.types i.id)) refl (rw comes_next at same)

    by_length : (o : Option ℕ) → is_some o ≡ true → with_length_if s i.id o ≡ Some u → ((k : ℕ) × (u ≡ record s { types = with_length s.types i.id k })) ⊎ ((u ≡ s) × (IsUnset (form_of s.types i.id) → ⊥))
    by_length None none h = cc
    by_length (Some n) some h = by_limit n (nat_lt 4194304 n) h
