-- The types of a module are those that it declares, but for the lengths of its arrays.
use Rattle.std.proofs.Common.{◌≡◌, ◌⊎◌, ◌∙◌, inl, inr, ℕ, ◌&&◌, Bool, true, false, List, [], ◌∷◌, Option, Some, None, refl, sym, ap, subst, arith}
use Rattle.std.proofs.lemmas.Bool.{cases_eq}
use Rattle.std.specs.Prelude.{if◌then◌else◌, nat_lt, not, unwrap_or}
use Rattle.std.specs.Option.{option_map, option_map_or}
use Rattle.spv_base.specs.declared.instructions.Inst.{Inst}
use Rattle.spv_types.specs.declared.forms.Form.{Form}
use Rattle.spv_types.specs.declared.forms.Form.TheVariants.{Void, Bool as Boolean, Int, Vector, Array, Runtime, Struct, Pointer, Function}
use Rattle.spv_types.specs.declared.forms.Member.{Member}
use Rattle.spv_types.specs.Constants.{is_constant}
use Rattle.spv_types.specs.Rules.{form_has_runtime, has_runtime, is_data, is_runtime, last_type}
use Rattle.spv_types.specs.Types.{Types, form_of, lengthened as with_size, number_of, with_length}
use Rattle.spv_types.specs.Typing.{types_read}
use Rattle.spv_types.proofs.Exports.{length_here, length_numbers, length_others, length_none, accepted_is}
use Rattle.spv_index.specs.Definitions.{before_functions}
use Rattle.spv_consts.specs.Build.{context_of, start_of, state_of}
use Rattle.spv_consts.specs.Context.{Context}
use Rattle.spv_consts.specs.Lengths.{is_unset, length_at, lengthened, with_array, with_length_if}
use Rattle.spv_consts.specs.Rules.{keeps_rules}
use Rattle.spv_consts.specs.State.{State, is_next}
use Rattle.spv_consts.specs.Steps.{breaks_limit, with_entry, left_out, after_one, after_all, with_constant, with_type}
use Rattle.spv_consts.specs.Table.{Constants}
use Rattle.spv_consts.proofs.Exports.{ends}
use Rattle.spv_valid.specs.Acceptance.{Accepted, IsAccepted, Passes}
use Rattle.spv_valid.proofs.Exports.{accepted_passes}

-- ---- forms without lengths

abbrev pub erased : Form → Form
erased Void = Void
erased Boolean = Boolean
erased (Int width sign) = Int width sign
erased (Vector component count) = Vector component count
erased (Array element n stride) = Array element None stride
erased (Runtime element stride) = Runtime element stride
erased (Struct members block) = Struct members block
erased (Pointer class target) = Pointer class target
erased (Function returns parameters) = Function returns parameters

abbrev pub erased_form : Option Form → Option Form
erased_form o = option_map erased o

size_erased : (n : ℕ) (f : Form) → erased (with_size n f) ≡ erased f
size_erased n f = grind arith

-- the types of one list have the numbers of those of another, and their forms but for the lengths of arrays
pub record AreAlike (ts us : Types) : Type 0 where
  pub numbers : (q : ℕ) → number_of us q ≡ number_of ts q
  pub forms : (q : ℕ) → erased_form (form_of us q) ≡ erased_form (form_of ts q)

alike_same : (ts : Types) → AreAlike ts ts
alike_same ts = record { numbers = λ q. refl; forms = λ q. refl }

alike_then : (ts us vs : Types) → AreAlike ts us → AreAlike us vs → AreAlike ts vs
alike_then ts us vs one other = record { numbers = λ q. other.numbers q ∙ one.numbers q; forms = λ q. other.forms q ∙ one.forms q }

-- ---- the length of an array

size_here : (ts : Types) (id n : ℕ) (o : Option Form) → form_of ts id ≡ o → erased_form (form_of (with_length ts id n) id) ≡ erased_form (form_of ts id)
size_here ts id n None e = ap (λ (us : Types). erased_form (form_of us id)) (length_none ts id n e)
size_here ts id n (Some f) e = ap erased_form (length_here ts id n f e) ∙ ap Some (size_erased n f) ∙ sym (ap erased_form e)

size_alike : (ts : Types) (id n : ℕ) → AreAlike ts (with_length ts id n)
size_alike ts id n = record { numbers = length_numbers ts id n; forms = λ q. by_id q (cases_eq id q) }
  where
    by_id : (q : ℕ) → (id ≡ q) ⊎ (id ≡ q → ⊥) → erased_form (form_of (with_length ts id n) q) ≡ erased_form (form_of ts q)
    by_id q (inl same) = subst (λ (k : ℕ). erased_form (form_of (with_length ts id n) k) ≡ erased_form (form_of ts k)) same (size_here ts id n (form_of ts id) refl)
    by_id q (inr apart) = ap erased_form (length_others ts id n q apart)

-- ---- the walk over constants

array_alike : (s : State) (id n : ℕ) (b : Bool) → AreAlike s.types (if b then record s { types = with_length s.types id n } else s).types
array_alike s id n true = size_alike s.types id n
array_alike s id n false = alike_same s.types

lengthened_alike : (m : Context) (s t : State) (i : Inst) → lengthened m s i ≡ Some t → AreAlike s.types t.types
lengthened_alike m s t i h = by_length (length_at m s i) h
  where
    by_limit : (n : ℕ) (b : Bool) → (if b then None else Some (with_array s i.id n)) ≡ Some t → AreAlike s.types t.types
    by_limit n true e = absurd (cc)
    by_limit n false e =
        let same : with_array s i.id n ≡ t = cc in
        subst (λ (u : State). AreAlike s.types u.types) same (array_alike s i.id n (is_next s i.id && is_unset (form_of s.types i.id)))

    by_length : (o : Option ℕ) → with_length_if s i.id o ≡ Some t → AreAlike s.types t.types
    by_length None e = let same : s ≡ t = cc in subst (λ (u : State). AreAlike s.types u.types) same (alike_same s.types)
    by_length (Some n) e = by_limit n (nat_lt 4194304 n) e

entered_types : (m : Context) (s : State) (i : Inst) → (with_entry m s i).types ≡ s.types
entered_types m s i = by_tests (is_next s i.id) (is_constant i.op)
  where
    by_tests : (b c : Bool) → (if b then with_type s else (if c then with_constant m s i else s)).types ≡ s.types
    by_tests true c = refl
    by_tests false true = refl
    by_tests false false = refl

left_types : (s : State) (i : Inst) → (left_out s i).types ≡ s.types
left_types s i = by_test (is_next s i.id)
  where
    by_test : (b : Bool) → (if b then with_type s else s).types ≡ s.types
    by_test true = refl
    by_test false = refl

stepped_alike : (m : Context) (s : State) (i : Inst) → AreAlike s.types (after_one m s i).types
unfolding after_one
stepped_alike m s i = by_test (keeps_rules m s i && not (breaks_limit m s i))
  where
    by_length : (o : Option State) → lengthened m s i ≡ o → AreAlike s.types (with_entry m (unwrap_or o s) i).types
    by_length None e = subst (AreAlike s.types) (sym (entered_types m s i)) (alike_same s.types)
    by_length (Some t) e = subst (AreAlike s.types) (sym (entered_types m t i)) (lengthened_alike m s t i e)

    by_test : (b : Bool) → AreAlike s.types (if b then with_entry m (unwrap_or (lengthened m s i) s) i else left_out s i).types
    by_test true = by_length (lengthened m s i) refl
    by_test false = subst (AreAlike s.types) (sym (left_types s i)) (alike_same s.types)

walked_alike : (m : Context) (s : State) (is : List Inst) → AreAlike s.types (after_all m s is).types
unfolding after_all
walked_alike m s [] = alike_same s.types
walked_alike m s (i ∷ is) = alike_then s.types (after_one m s i).types (after_all m (after_one m s i) is).types (stepped_alike m s i) (walked_alike m (after_one m s i) is)

-- the types of an accepted module are those that it declares, but for the lengths of arrays
pub types_alike : (a : Accepted) → IsAccepted a → AreAlike (types_read a.insts) a.types
types_alike a is =
    let passes : Passes a is.name is.over = accepted_passes a is.name is.over is.is in
    let ts : Types = passes.declared in
    let ended = ends a.insts ts is.over (a.types, a.constants) passes.constants in
    let rules = accepted_is a.insts ts passes.types in
    let walk : AreAlike ts (state_of ts a.insts is.over).types = walked_alike (context_of ts a.insts is.over) (start_of ts) (before_functions a.insts) in
    let end : a.types ≡ (state_of ts a.insts is.over).types = ap (λ (k : Types × Constants). k.0) ended.1 in
    subst (λ (us : Types). AreAlike us a.types) (sym rules.1) (subst (AreAlike ts) (sym end) walk)

-- ---- what is so of a form whatever its length

data_erased : (o : Option Form) → is_data (erased_form o) ≡ is_data o
data_erased o = grind arith

runtime_erased : (o : Option Form) → is_runtime (erased_form o) ≡ is_runtime o
runtime_erased o = grind arith

within_erased : (ts : Types) (o : Option Form) → form_has_runtime ts (erased_form o) ≡ form_has_runtime ts o
within_erased ts o = grind arith

-- a pointer type and a struct type have no length
pub erased_pointer : (o : Option Form) (class target : ℕ) → erased_form o ≡ Some (Pointer class target) → o ≡ Some (Pointer class target)
erased_pointer o class target h = grind arith

pub erased_struct : (o : Option Form) (members : List Member) (block : Bool) → erased_form o ≡ Some (Struct members block) → o ≡ Some (Struct members block)
erased_struct o members block h = grind arith

module _ (ts us : Types) (alike : AreAlike ts us) where
  pub data_alike : (q : ℕ) → is_data (form_of us q) ≡ is_data (form_of ts q)
  data_alike q = sym (data_erased (form_of us q)) ∙ ap is_data (alike.forms q) ∙ data_erased (form_of ts q)

  runtime_alike : (q : ℕ) → is_runtime (form_of us q) ≡ is_runtime (form_of ts q)
  runtime_alike q = sym (runtime_erased (form_of us q)) ∙ ap is_runtime (alike.forms q) ∙ runtime_erased (form_of ts q)

  last_alike : (o : Option ℕ) → option_map_or (λ (ty : ℕ). is_runtime (form_of us ty)) o false ≡ option_map_or (λ (ty : ℕ). is_runtime (form_of ts ty)) o false
  last_alike None = refl
  last_alike (Some ty) = runtime_alike ty

  form_alike : (o : Option Form) → form_has_runtime us o ≡ form_has_runtime ts o
  form_alike None = refl
  form_alike (Some Void) = refl
  form_alike (Some Boolean) = refl
  form_alike (Some (Int width sign)) = refl
  form_alike (Some (Vector component count)) = refl
  form_alike (Some (Array element n stride)) = refl
  form_alike (Some (Runtime element stride)) = refl
  form_alike (Some (Struct members block)) = last_alike (last_type members)
  form_alike (Some (Pointer class target)) = refl
  form_alike (Some (Function returns parameters)) = refl

  pub within_alike : (q : ℕ) → has_runtime us q ≡ has_runtime ts q
  within_alike q =
      sym (within_erased us (form_of us q)) ∙ form_alike (erased_form (form_of us q)) ∙ ap (form_has_runtime ts) (alike.forms q) ∙ within_erased ts (form_of ts q)

  pub pointer_alike : (q class target : ℕ) → form_of ts q ≡ Some (Pointer class target) → form_of us q ≡ Some (Pointer class target)
  pointer_alike q class target h = erased_pointer (form_of us q) class target (alike.forms q ∙ ap erased_form h)

  pub struct_alike : (q : ℕ) (members : List Member) (block : Bool) → form_of ts q ≡ Some (Struct members block) → form_of us q ≡ Some (Struct members block)
  struct_alike q members block h = erased_struct (form_of us q) members block (alike.forms q ∙ ap erased_form h)
