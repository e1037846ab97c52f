-- The walk over a module's constants, from its first instruction to its last before the functions.
use Rattle.std.proofs.Common.{◌≡◌, ◌≢◌, ◌⊎◌, ◌∙◌, ℕ, ◌<◌, ◌==◌, Bool, true, false, List, [], ◌∷◌, ◌++◌, length, append_assoc, append-nil, Option, Some, None, Ok, Err, inl, inr, refl, sym, ap, subst}
use Rattle.std.proofs.lemmas.Bool.{and_parts, cases_Bool, eqb-true, eq-eqb}
use Rattle.std.specs.Prelude.{if◌then◌else◌, nat_le, option_map, ◌&&◌}
use Rattle.std.specs.List.{AllByRecursion}
use Rattle.std.specs.Option.{option_and_then, option_map_or}
use Rattle.spv_base.specs.Entries.{reads}
use Rattle.spv_base.specs.Order.{Ascend}
use Rattle.spv_base.specs.declared.causes.Refusal.{Refusal}
use Rattle.spv_base.specs.declared.instructions.Inst.{Inst}
use Rattle.spv_base.specs.declared.values.Root.{Root}
use Rattle.spv_types.specs.declared.forms.Form.{Form}
use Rattle.spv_types.specs.Build.{type_breaches, types_of, unless_refused}
use Rattle.spv_types.specs.Constants.{is_constant}
use Rattle.spv_types.specs.Laws.{AreByForms, AreComplete, AreNamed, AreSound, HasResult, IsAmong}
use Rattle.spv_types.specs.Rules.{is_data, is_sized_data}
use Rattle.spv_types.specs.Types.{IsUnset, Types, form_of, lengthened as with_size, number_of, with_length}
use Rattle.spv_types.specs.Typing.{defined_form, types_in, types_read}
use Rattle.spv_index.specs.Definitions.{before_functions, defining, result_type, type_in}
use Rattle.spv_consts.specs.Table.{Constants, Row}
use Rattle.spv_consts.specs.Context.{Context}
use Rattle.spv_consts.specs.State.{State, is_next}
use Rattle.spv_consts.specs.Values.{undefined_of}
use Rattle.spv_consts.specs.Evaluation.{cells_of}
use Rattle.spv_consts.specs.Laws.{FillType, HaveShapes, HaveValues, IsConstantOf, OperandsFillTypes}
use Rattle.spv_consts.specs.Overrides.{Numbers}
use Rattle.spv_consts.specs.SpecIds.{lowest_wrong}
use Rattle.spv_consts.specs.Build.{constants_of, context_of, front_breaches, known_of, start_of, state_of, unless_earlier}
use Rattle.spv_consts.specs.Lengths.{lengthened}
use Rattle.spv_consts.specs.Rules.{keeps_kind, keeps_rules}
use Rattle.spv_consts.specs.Steps.{breaches_at, breaches_from, with_entry, after_one, after_all, with_constant, with_type}
use Rattle.spv_types.proofs.Exports.{number_lt, form_number, accepted_is}
use Rattle.spv_consts.proofs.TreeLemmas.{row_is}
use Rattle.spv_consts.proofs.ValueFills.{blanks_fill, constants_fill}
use Rattle.spv_consts.proofs.WalkIds.{before_is_front}
use Rattle.spv_consts.proofs.WalkStates.{array_length, constant_no_array, constant_no_type, no_length, only_arrays_unset, passed}
use Rattle.spv_consts.proofs.WalkPlaces.{IsPlaced, placed}
use Rattle.spv_consts.proofs.WalkSteps.{Follows, IsFilled, constant_follows, follows_start, length_follows, length_sets, other_follows, type_follows}
use Rattle.spv_base.proofs.Exports.{each_weaker, both_empty}

-- ---- the type of a constant

read_filled : (insts : List Inst) (ts : Types) (known : ℕ) (cs : Constants) (id : ℕ) (v : Row) → AllByRecursion (IsFilled insts ts known) cs → reads id cs ≡ Some v → IsFilled insts ts known (id, v)
read_filled insts ts known [] id v h e = cc
read_filled insts ts known (c ∷ cs) id v (first, rest) e = by_test (c.0 == id) refl e (read_filled insts ts known cs id v rest)
  where
    by_test : (b : Bool) → (c.0 == id) ≡ b → (if b then Some c.1 else reads id cs) ≡ Some v → (reads id cs ≡ Some v → IsFilled insts ts known (id, v)) → IsFilled insts ts known (id, v)
    by_test true t h behind =
        let same_id : c.0 ≡ id = eqb-true c.0 id t in
        let same : c.1 ≡ v = cc in
        let one : IsFilled insts ts known (id, c.1) = subst (λ (q : ℕ). IsFilled insts ts known (q, c.1)) same_id first in
        subst (λ (w : Row). IsFilled insts ts known (id, w)) same one
    by_test false t h behind = behind h

-- a type of data has a number
pub data_number : (ts : Types) (id : ℕ) → is_data (form_of ts id) ≡ true → (n : ℕ) × (number_of ts id ≡ Some n)
data_number ts id h = by_form (form_of ts id) refl h
  where
    by_form : (o : Option Form) → form_of ts id ≡ o → is_data o ≡ true → (n : ℕ) × (number_of ts id ≡ Some n)
    by_form None e data_is = cc
    by_form (Some f) e data_is = form_number ts id f e

pub constant_rules : (m : Context) (s : State) (i : Inst) → is_constant i.op ≡ true → keeps_rules m s i ≡ true → is_data (form_of s.types i.ty) ≡ true
constant_rules m s i constant rules =
    let rest : (is_sized_data s.types i.ty && keeps_kind m s i) ≡ true = rw (constant_no_array i.op constant, constant) at rules in
    let sized = and_parts (is_sized_data s.types i.ty) (keeps_kind m s i) rest in
    (and_parts (is_data (form_of s.types i.ty)) _ sized.0).0

pub constant_among : (m : Context) (front : List Inst) (i : Inst) (s : State) → Follows m.all front s → IsPlaced m.all front i → is_constant i.op ≡ true → keeps_rules m s i ≡ true → IsAmong s.types s.known i.ty
constant_among m front i s follows place constant rules =
    let number = data_number s.types i.ty (constant_rules m s i constant rules) in
    let below = place.earlier constant number.0 (sym (follows.numbers i.ty) ∙ number.1) in
    record { number = number.0; is = number.1; below = subst (λ (n : ℕ). number.0 < n) (sym follows.known) below }

-- ---- its operands

-- the type of a result that has one
type_named : (insts : List Inst) (id own ty : ℕ) → option_map (λ (i : Inst). i.ty) (defining insts id) ≡ Some own → result_type insts id ≡ Some ty → own ≡ ty
type_named insts id own ty defined h = by_defining (defining insts id) defined h
  where
    by_test : (b : Bool) (n : ℕ) → (if b then None else Some n) ≡ Some ty → n ≡ ty
    by_test true n h = cc
    by_test false n h = cc

    by_defining : (o : Option Inst) → option_map (λ (j : Inst). j.ty) o ≡ Some own → option_and_then type_in o ≡ Some ty → own ≡ ty
    by_defining None e h = cc
    by_defining (Some j) e h = let same : j.ty ≡ own = cc in sym same ∙ by_test (j.ty == 0) j.ty h

pub operands_fill : (m : Context) (front : List Inst) (i : Inst) (s : State) → Follows m.all front s → OperandsFillTypes m s i.word
operands_fill m front i s follows = λ id ty h typed. by_value id ty typed (reads id s.values) refl
  where
    by_type : (ty : ℕ) (o : Option ℕ) → o ≡ Some ty → FillType s.types ty (option_map_or (undefined_of s.types) o [])
    by_type ty None e = cc
    by_type ty (Some t) e = let same : t ≡ ty = cc in subst (λ (q : ℕ). FillType s.types q (undefined_of s.types t)) same (blanks_fill s.types false t follows.sound)

    by_value : (id ty : ℕ) → result_type m.all id ≡ Some ty → (o : Option Row) → reads id s.values ≡ o → FillType s.types ty (option_map_or (λ (r : Row). r.cells) o (option_map_or (undefined_of s.types) (result_type m.all id) []))
    by_value id ty typed None e = by_type ty (result_type m.all id) typed
    by_value id ty typed (Some v) e =
        let filled = read_filled m.all s.types s.known s.values id v follows.shaped e in
        subst (λ (t : ℕ). FillType s.types t v.cells) (type_named m.all id v.ty ty filled.1 typed) filled.3

-- ---- one instruction

next_is : (s : State) (id n : ℕ) → number_of s.types id ≡ Some n → s.known ≡ n → is_next s id ≡ true
next_is s id n number known = rw number (eq-eqb n s.known (sym known))

pub not_next : (s : State) (id : ℕ) → number_of s.types id ≡ None → is_next s id ≡ false
not_next s id number = rw number refl

-- what comes of an instruction by its kind
type_entered : (m : Context) (s : State) (i : Inst) → is_next s i.id ≡ true → with_entry m s i ≡ with_type s
type_entered m s i comes_next = rw comes_next refl

pub constant_entered : (m : Context) (s : State) (i : Inst) → is_next s i.id ≡ false → is_constant i.op ≡ true → with_entry m s i ≡ with_constant m s i
constant_entered m s i other constant = rw (other, constant) refl

other_entered : (m : Context) (s : State) (i : Inst) → is_next s i.id ≡ false → is_constant i.op ≡ false → with_entry m s i ≡ s
other_entered m s i other no_constant = rw (other, no_constant) refl

-- ---- the state at the end

pub ends : (insts : List Inst) (ts : Types) (over : Numbers) (known : Types × Constants) → constants_of ts insts over ≡ Ok known
    → (front_breaches ts insts over ≡ []) × (known ≡ known_of (state_of ts insts over))
unfolding constants_of
ends insts ts over known is = by_breaches (front_breaches ts insts over) (lowest_wrong insts insts) is
  where
    by_breaches : (rs : List Refusal) (o : Option ℕ) → unless_earlier o (unless_refused (known_of (state_of ts insts over)) rs) ≡ Ok known → (rs ≡ []) × (known ≡ known_of (state_of ts insts over))
    by_breaches [] None e = (refl, cc)
    by_breaches [] (Some word) e = cc
    by_breaches (r ∷ rs) None e = cc
    by_breaches (r ∷ rs) (Some word) e = by_word (nat_le word r.word) e
      where
        by_word : (b : Bool) → (if b then Err (record { code = 14; word = word }) else Err r) ≡ Ok known → (r ∷ rs ≡ []) × (known ≡ known_of (state_of ts insts over))
        by_word true h = cc
        by_word false h = cc

-- ---- by what the laws of types and of values say

module _
    (sound : (insts : List Inst) (ts : Types) → AllByRecursion (HasResult insts) insts → types_of insts ≡ Ok ts → AreSound ts)
    (sound_kept : (ts : Types) (id n : ℕ) → AreSound ts → AreSound (with_length ts id n))
    (number_kept : (ts : Types) (id n q : ℕ) → number_of (with_length ts id n) q ≡ number_of ts q)
    (other_kept : (ts : Types) (id n q : ℕ) → id ≢ q → form_of (with_length ts id n) q ≡ form_of ts q)
    (own_set : (ts : Types) (id n : ℕ) (f : Form) → form_of ts id ≡ Some f → form_of (with_length ts id n) id ≡ Some (with_size n f))
    (by_forms : (ts : Types) (roots : Root → Option ℕ) → AreSound ts → AreByForms ts roots)
  where
    -- a type instruction
    type_passes : (m : Context) (front : List Inst) (i : Inst) (s u : State) (f : Form) → Follows m.all front s → IsPlaced m.all front i → defined_form m.all i ≡ Some f → keeps_rules m s i ≡ true → lengthened m s i ≡ Some u
        → Follows m.all (front ++ i ∷ []) (with_entry m u i)
    type_passes m front i s u f follows place form rules lengthens = by_array (cases_Bool (i.op == 28))
      where
        at : (number_of (types_read m.all) i.id ≡ Some (length (types_in m.all front))) × (form_of (types_read m.all) i.id ≡ Some f)
        at = place.type_at f form

        number : number_of s.types i.id ≡ Some s.known
        number = follows.numbers i.id ∙ at.0 ∙ ap Some (sym follows.known)

        no_constant : (b : Bool) → is_constant i.op ≡ b → b ≡ false
        no_constant true e = let clash : Some f ≡ None = sym form ∙ constant_no_type m.all i e in cc
        no_constant false e = refl

        other : is_constant i.op ≡ false
        other = no_constant (is_constant i.op) refl

        enters : (v : State) → Follows m.all front v → number_of v.types i.id ≡ Some v.known → (IsUnset (form_of v.types i.id) → ⊥) → Follows m.all (front ++ i ∷ []) (with_entry m v i)
        enters v follows_v number_v is_set =
            let is : with_entry m v i ≡ with_type v = type_entered m v i (next_is v i.id v.known number_v refl) in
            subst (λ (t : State). Follows m.all (front ++ i ∷ []) t) (sym is) (type_follows m.all front i v f follows_v form other number_v is_set)

        long : (n : ℕ) → u ≡ record s { types = with_length s.types i.id n } → Follows m.all (front ++ i ∷ []) (with_entry m u i)
        long n same =
            let v : State = record s { types = with_length s.types i.id n } in
            let follows_v : Follows m.all front v = length_follows sound_kept number_kept other_kept own_set m.all front s i.id n follows number in
            let number_v : number_of v.types i.id ≡ Some v.known = number_kept s.types i.id n i.id ∙ number in
            let is_set : IsUnset (form_of v.types i.id) → ⊥ = length_sets sound_kept number_kept other_kept own_set s.types i.id n s.known number in
            subst (λ (t : State). Follows m.all (front ++ i ∷ []) (with_entry m t i)) (sym same) (enters v follows_v number_v is_set)

        unchanged : u ≡ s → (IsUnset (form_of s.types i.id) → ⊥) → Follows m.all (front ++ i ∷ []) (with_entry m u i)
        unchanged same is_set = subst (λ (t : State). Follows m.all (front ++ i ∷ []) (with_entry m t i)) (sym same) (enters s follows number is_set)

        by_length : ((n : ℕ) × (u ≡ record s { types = with_length s.types i.id n })) ⊎ ((u ≡ s) × (IsUnset (form_of s.types i.id) → ⊥)) → Follows m.all (front ++ i ∷ []) (with_entry m u i)
        by_length (inl (n, same)) = long n same
        by_length (inr (same, is_set)) = unchanged same is_set

        by_array : ((i.op == 28) ≡ true) ⊎ ((i.op == 28) ≡ false) → Follows m.all (front ++ i ∷ []) (with_entry m u i)
        by_array (inl array) = by_length (array_length m s u i array rules (next_is s i.id s.known number refl) lengthens)
        by_array (inr no_array) = unchanged (no_length m s u i no_array lengthens)
            (λ unset. only_arrays_unset m.all i no_array (subst IsUnset (sym form) (subst IsUnset at.1 (follows.unset i.id unset))))

    -- any other instruction
    other_passes : (m : Context) (front : List Inst) (i : Inst) (s u : State) → Follows m.all front s → IsPlaced m.all front i → defined_form m.all i ≡ None → keeps_rules m s i ≡ true → lengthened m s i ≡ Some u
        → Follows m.all (front ++ i ∷ []) (with_entry m u i)
    other_passes m front i s u follows place form rules lengthens =
        subst (λ (t : State). Follows m.all (front ++ i ∷ []) (with_entry m t i)) (sym (no_length m s u i (place.no_array form) lengthens)) (by_kind (cases_Bool (is_constant i.op)))
      where
        aside : is_next s i.id ≡ false
        aside = not_next s i.id (follows.numbers i.id ∙ place.no_type form)

        by_kind : (is_constant i.op ≡ true) ⊎ (is_constant i.op ≡ false) → Follows m.all (front ++ i ∷ []) (with_entry m s i)
        by_kind (inl constant) =
            let among : IsAmong s.types s.known i.ty = constant_among m front i s follows place constant rules in
            let fills : FillType s.types i.ty (cells_of m s i) = constants_fill m s i follows.sound (operands_fill m front i s follows) constant rules in
            let follows_t = constant_follows m front i s follows form (place.defined constant) among (constant_rules m s i constant rules) fills in
            subst (λ (t : State). Follows m.all (front ++ i ∷ []) t) (sym (constant_entered m s i aside constant)) follows_t
        by_kind (inr no_constant) = subst (λ (t : State). Follows m.all (front ++ i ∷ []) t) (sym (other_entered m s i aside no_constant)) (other_follows m.all front i s follows form no_constant)

    pub step_follows : (m : Context) (front : List Inst) (i : Inst) (s : State) → Follows m.all front s → IsPlaced m.all front i → breaches_at m s i ≡ [] → Follows m.all (front ++ i ∷ []) (after_one m s i)
    step_follows m front i s follows place none = by_form (defined_form m.all i) refl
      where
        passes : (keeps_rules m s i ≡ true) × ((u : State) × (lengthened m s i ≡ Some u) × (after_one m s i ≡ with_entry m u i))
        passes = passed m s i none

        by_form : (o : Option Form) → defined_form m.all i ≡ o → Follows m.all (front ++ i ∷ []) (after_one m s i)
        by_form None e = subst (λ (v : State). Follows m.all (front ++ i ∷ []) v) (sym passes.1.2) (other_passes m front i s passes.1.0 follows place e passes.0 passes.1.1)
        by_form (Some f) e = subst (λ (v : State). Follows m.all (front ++ i ∷ []) v) (sym passes.1.2) (type_passes m front i s passes.1.0 f follows place e passes.0 passes.1.1)

    -- ---- all of them

    pub walk_follows : (m : Context) (front rest tail : List Inst) (s : State) → Ascend 0 m.all → AreNamed m.all → type_breaches m.all [] (before_functions m.all) ≡ [] → before_functions m.all ≡ front ++ rest → m.all ≡ front ++ (rest ++ tail)
        → Follows m.all front s → breaches_from m s rest ≡ [] → Follows m.all (before_functions m.all) (after_all m s rest)
    unfolding after_all breaches_from
    walk_follows m front [] tail s ascend named none place whole follows no_breaches =
        let all_of : front ≡ before_functions m.all = sym (place ∙ append-nil front) in
        subst (λ (is : List Inst). Follows m.all is s) all_of follows
    walk_follows m front (i ∷ rest) tail s ascend named none place whole follows no_breaches =
        let both = both_empty (breaches_at m s i) (breaches_from m (after_one m s i) rest) no_breaches in
        walk_follows m (front ++ i ∷ []) rest tail (after_one m s i) ascend named none (place ∙ sym (append_assoc front (i ∷ []) rest)) (whole ∙ sym (append_assoc front (i ∷ []) (rest ++ tail)))
        (step_follows m front i s follows (placed m.all front rest tail i place whole ascend named none) both.0) both.1

    -- ---- the answer

    abbrev pub Walked : List Inst → Types × Constants → Type 0
    Walked insts known = (s : State) × Follows insts (before_functions insts) s × (known ≡ (s.types, s.values))

    walked_by : (insts : List Inst) (ts : Types) (over : Numbers) (known : Types × Constants) → Ascend 0 insts → AreNamed insts → types_of insts ≡ Ok ts → constants_of ts insts over ≡ Ok known → Walked insts known
    walked_by insts ts over known ascend named typed is =
        let ended = ends insts ts over known is in
        let rules = accepted_is insts ts typed in
        let front = before_is_front insts in
        let sound_start : AreSound (types_read insts) = subst AreSound (sym rules.1) (sound insts ts named.results typed) in
        let start : Follows insts [] (start_of ts) = follows_start insts (start_of ts) refl (sym rules.1) refl sound_start in
        (state_of ts insts over, walk_follows (context_of ts insts over) [] (before_functions insts) front.0 (start_of ts) ascend named rules.0 refl front.1 start ended.0, ended.1)

    -- the types are sound, and each array has its length
    pub types_are_whole : (insts : List Inst) (ts : Types) (over : Numbers) (known : Types × Constants) → Ascend 0 insts → AreNamed insts → types_of insts ≡ Ok ts → constants_of ts insts over ≡ Ok known
        → AreSound known.0 × AreComplete known.0 (length known.0)
    types_are_whole insts ts over known ascend named typed is =
        let w = walked_by insts ts over known ascend named typed is in
        subst (λ (k : Types × Constants). AreSound k.0 × AreComplete k.0 (length k.0)) (sym w.2) (w.1.sound, complete w.0 w.1)
      where
        complete : (s : State) → Follows insts (before_functions insts) s → AreComplete s.types (length s.types)
        complete s follows = λ id among.
            let below : among.number < length (types_read insts) = number_lt (types_read insts) id among.number (sym (follows.numbers id) ∙ among.is) in
            follows.complete id (record { number = among.number; is = among.is; below = subst (λ (n : ℕ). among.number < n) (sym follows.known) below })

    -- each constant has a value of the shape of its type
    pub values_have_shapes : (insts : List Inst) (ts : Types) (over : Numbers) (known : Types × Constants) → Ascend 0 insts → AreNamed insts → types_of insts ≡ Ok ts → constants_of ts insts over ≡ Ok known
        → (roots : Root → Option ℕ) → HaveShapes known.0 insts roots known.1
    values_have_shapes insts ts over known ascend named typed is = λ roots.
        let w = walked_by insts ts over known ascend named typed is in
        subst (λ (k : Types × Constants). HaveShapes k.0 insts roots k.1) (sym w.2)
        (each_weaker (IsFilled insts w.0.types w.0.known) (IsConstantOf w.0.types insts roots) (λ c filled. record {
          ty = filled.1;
          row = row_is w.0.types roots w.0.known w.1.sound (by_forms w.0.types roots w.1.sound) w.1.complete c.1.ty filled.0 filled.2 c.1.cells filled.3;
        }) w.0.values w.1.shaped)

    -- each constant has a value
    pub constants_have_values : (insts : List Inst) (ts : Types) (over : Numbers) (known : Types × Constants) → Ascend 0 insts → AreNamed insts → types_of insts ≡ Ok ts → constants_of ts insts over ≡ Ok known → HaveValues insts known.1
    constants_have_values insts ts over known ascend named typed is =
        let w = walked_by insts ts over known ascend named typed is in
        subst (λ (k : Types × Constants). HaveValues insts k.1) (sym w.2) w.1.valued
