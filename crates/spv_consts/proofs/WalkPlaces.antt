-- What a module's ids, order and types say of an instruction before the functions, whatever the constants before it are.
use Rattle.std.proofs.Common.{◌≡◌, ◌∙◌, ℕ, ◌<◌, ◌≤◌, ◌==◌, true, false, List, [], ◌∷◌, ◌++◌, length, length-append, append_assoc, Some, None, sym, ap, subst, arith}
use Rattle.std.proofs.lemmas.Bool.{and_parts, or_right}
use Rattle.std.specs.Prelude.{find}
use Rattle.std.specs.List.{AllByRecursion}
use Rattle.std.specs.Option.{is_some}
use Rattle.spv_base.proofs.Exports.{each_left, each_right}
use Rattle.spv_base.specs.Order.{AreDistinct, Ascend}
use Rattle.spv_base.specs.declared.instructions.Inst.{Inst}
use Rattle.spv_types.specs.declared.forms.Form.{Form}
use Rattle.spv_ops.specs.declared.op.TheConstants.{TYPE_ARRAY, UNDEF}
use Rattle.spv_types.specs.Build.{type_breaches}
use Rattle.spv_types.specs.Constants.{is_constant}
use Rattle.spv_types.specs.Laws.{AreNamed, HasResult, IsAmong, TypesComeFirst}
use Rattle.spv_types.specs.Rules.{is_data, is_sized_data}
use Rattle.spv_types.specs.Types.{Types, form_of, number_of}
use Rattle.spv_types.specs.Typing.{defined_form, types_in, types_read}
use Rattle.spv_index.specs.Definitions.{before_functions, defining, has_result}
use Rattle.spv_consts.proofs.WalkIds.{Differs, defining_is, differ_before, distinct_left, found_before, found_of_defining, type_comes_first}
use Rattle.spv_consts.proofs.WalkStates.{array_has_form}
use Rattle.spv_consts.proofs.WalkTypes.{earlier_type, kept_at, known_data, other_number, type_number, types_joined, undef_is_sized}

-- What is so of an instruction before the functions, behind some others: its type comes next among the declared types, or its
-- id is no type; no other one before it has its id, and a constant defines its id; a constant has its type among those before it,
-- and so has an OpUndef before its word, of data.
pub record IsPlaced (insts front : List Inst) (i : Inst) : Type 0 where
  pub type_at : (f : Form) → defined_form insts i ≡ Some f → (number_of (types_read insts) i.id ≡ Some (length (types_in insts front))) × (form_of (types_read insts) i.id ≡ Some f)
  pub no_type : defined_form insts i ≡ None → number_of (types_read insts) i.id ≡ None
  pub no_array : defined_form insts i ≡ None → (i.op == TYPE_ARRAY) ≡ false
  pub apart : AllByRecursion (Differs i.id) front
  pub positive : is_constant i.op ≡ true → 0 < i.id
  pub defined : is_constant i.op ≡ true → defining insts i.id ≡ Some i
  pub earlier : is_constant i.op ≡ true → (n : ℕ) → number_of (types_read insts) i.ty ≡ Some n → n < length (types_in insts front)
  pub undefined : (id : ℕ) (d : Inst) → defining insts id ≡ Some d → d.op ≡ UNDEF → d.word < i.word → IsAmong (types_read insts) (length (types_in insts front)) d.ty × (is_data (form_of (types_read insts) d.ty) ≡ true)

-- what is among the first types is among more of them
pub wider : (ts : Types) (n m id : ℕ) → n ≤ m → IsAmong ts n id → IsAmong ts m id
wider ts n m id le among = record { number = among.number; is = among.is; below = omega (arith, among.below) }

module _ (insts front rest tail : List Inst) (i : Inst) (place : before_functions insts ≡ front ++ i ∷ rest) (whole : insts ≡ front ++ i ∷ (rest ++ tail)) where
  undefined_type : Ascend 0 insts → type_breaches insts [] (before_functions insts) ≡ [] → (id : ℕ) (d : Inst) → defining insts id ≡ Some d → d.op ≡ UNDEF → d.word < i.word
      → IsAmong (types_read insts) (length (types_in insts front)) d.ty × (is_data (form_of (types_read insts) d.ty) ≡ true)
  undefined_type ascend none id d is op before =
      let ascend_parts : Ascend 0 (front ++ i ∷ (rest ++ tail)) = subst (λ (is : List Inst). Ascend 0 is) whole ascend in
      let found : find (has_result id) (front ++ i ∷ (rest ++ tail)) ≡ Some d = subst (λ (is : List Inst). find (has_result id) is ≡ Some d) whole (found_of_defining insts id d is) in
      let at = found_before (has_result id) 0 front (rest ++ tail) i d ascend_parts found before in
      by_place at.0 at.1 at.2
    where
      by_place : (xs ys : List Inst) → front ≡ xs ++ d ∷ ys → IsAmong (types_read insts) (length (types_in insts front)) d.ty × (is_data (form_of (types_read insts) d.ty) ≡ true)
      by_place xs ys front_is =
          let parts : before_functions insts ≡ xs ++ d ∷ (ys ++ i ∷ rest) = place ∙ ap (λ (is : List Inst). is ++ i ∷ rest) front_is ∙ append_assoc xs (d ∷ ys) (i ∷ rest) in
          let kept = kept_at insts [] xs (ys ++ i ∷ rest) d (subst (λ (is : List Inst). type_breaches insts [] is ≡ []) parts none) in
          let sized : is_sized_data (types_in insts xs) d.ty ≡ true = undef_is_sized insts (types_in insts xs) d op kept in
          let data_is = and_parts (is_data (form_of (types_in insts xs) d.ty)) _ sized in
          let known = known_data insts xs (d ∷ (ys ++ i ∷ rest)) d.ty data_is.0 in
          let fewer : length (types_in insts xs) ≤ length (types_in insts front) = rw (front_is, types_joined insts xs (d ∷ ys)) (omega (arith, length-append (types_in insts xs) (types_in insts (d ∷ ys)))) in
          let back : types_in insts (xs ++ d ∷ (ys ++ i ∷ rest)) ≡ types_read insts = ap (λ (is : List Inst). types_in insts is) (sym parts) in (
            wider (types_read insts) (length (types_in insts xs)) (length (types_in insts front)) d.ty fewer (subst (λ (ts : Types). IsAmong ts (length (types_in insts xs)) d.ty) back known.0),
            subst (λ (ts : Types). is_data (form_of ts d.ty) ≡ true) back known.1,
          )

  -- and it is so, where ids are distinct, words ascend and the rules of types are kept
  pub placed : Ascend 0 insts → AreNamed insts → type_breaches insts [] (before_functions insts) ≡ [] → IsPlaced insts front i
  placed ascend named none = record {
    type_at = λ f e. let at = type_number insts front rest i f distinct results e in
        (ap (λ (is : List Inst). number_of (types_in insts is) i.id) place ∙ at.0, ap (λ (is : List Inst). form_of (types_in insts is) i.id) place ∙ at.1);
    no_type = λ e. ap (λ (is : List Inst). number_of (types_in insts is) i.id) place ∙ other_number insts front rest i distinct results e;
    no_array = array_has_form insts (types_in insts front) i (kept_at insts [] front rest i (subst (λ (is : List Inst). type_breaches insts [] is ≡ []) place none));
    apart = differ_before front rest i distinct;
    positive = λ constant. (bounds constant).0;
    defined = defined;
    earlier = λ constant n e. earlier_type insts front (i ∷ rest) i.ty n distinct results (type_comes_first [] front rest i first constant) (sym (ap (λ (is : List Inst). number_of (types_in insts is) i.ty) place) ∙ e);
    undefined = undefined_type ascend none;
  }
    where
      long : insts ≡ (front ++ i ∷ rest) ++ tail
      long = whole ∙ sym (append_assoc front (i ∷ rest) tail)

      distinct : AreDistinct (front ++ i ∷ rest)
      distinct = distinct_left (front ++ i ∷ rest) tail (subst AreDistinct long named.distinct)

      results : AllByRecursion (HasResult insts) (front ++ i ∷ rest)
      results = each_left (HasResult insts) (front ++ i ∷ rest) tail (subst (λ (is : List Inst). AllByRecursion (HasResult insts) is) long named.results)

      first : TypesComeFirst [] (front ++ i ∷ rest)
      first = subst (λ (is : List Inst). TypesComeFirst [] is) place named.types_first

      bounds : is_constant i.op ≡ true → (0 < i.id) × (i.id < 1048576)
      bounds constant = (each_right (HasResult insts) front (i ∷ rest) results).0 (or_right (is_some (defined_form insts i)) (is_constant i.op) constant)

      defined : is_constant i.op ≡ true → defining insts i.id ≡ Some i
      defined constant =
          let within = bounds constant in
          let is : defining (front ++ i ∷ (rest ++ tail)) i.id ≡ Some i = defining_is front (rest ++ tail) i within.0 within.1 (subst AreDistinct whole named.distinct) in
          ap (λ (is : List Inst). defining is i.id) whole ∙ is
