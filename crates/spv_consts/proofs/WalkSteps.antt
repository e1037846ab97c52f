-- What is so in each state of the walk over a module's constants: the types up to there are complete, and each constant fills its
-- type.
use Rattle.std.proofs.Common.{◌≡◌, ◌≢◌, ◌⊎◌, ◌∙◌, ℕ, ◌+◌, ◌<◌, ◌≤◌, ◌==◌, Bool, true, false, eqb, List, [], ◌∷◌, ◌++◌, length, length-append, append-nil, Some, None, inl, inr, refl, sym, ap, subst, arith}
use Rattle.std.proofs.lemmas.Bool.{cases_eq, cases_lt, eq-eqb}
use Rattle.std.specs.Prelude.{if◌then◌else◌}
use Rattle.std.specs.List.{AllByRecursion}
use Rattle.std.specs.Option.{IsSome, option_map}
use Rattle.spv_base.specs.Entries.{reads}
use Rattle.spv_base.specs.declared.instructions.Inst.{Inst}
use Rattle.spv_types.specs.declared.forms.Form.{Form}
use Rattle.spv_types.specs.declared.forms.Form.TheVariants.{Void}
use Rattle.spv_types.specs.Constants.{is_constant}
use Rattle.spv_types.specs.Laws.{AreComplete, AreSound, IsAmong}
use Rattle.spv_types.specs.Rules.{is_data}
use Rattle.spv_types.specs.Types.{IsUnset, Types, form_of, lengthened as with_size, number_of, with_length}
use Rattle.spv_types.specs.Typing.{defined_form, types_in, types_read}
use Rattle.spv_types.proofs.Exports.{number_form}
use Rattle.spv_index.specs.Definitions.{defining}
use Rattle.spv_consts.specs.Table.{Constants, Row}
use Rattle.spv_consts.specs.Values.{leaf_widths}
use Rattle.spv_consts.specs.Laws.{FillType}
use Rattle.spv_consts.specs.Context.{Context}
use Rattle.spv_consts.specs.State.{State}
use Rattle.spv_consts.specs.Evaluation.{cells_of, value_of}
use Rattle.spv_consts.specs.Steps.{with_constant, with_type}
use Rattle.spv_consts.specs.Values.{widths_among, widths_step}
use Rattle.spv_consts.proofs.FillLemmas.{Fill}
use Rattle.spv_consts.proofs.LengthLemmas.{in_first_kept}
use Rattle.spv_consts.proofs.WalkIds.{each_push}
use Rattle.spv_consts.proofs.WalkTypes.{same_number, types_joined}
use Rattle.spv_consts.proofs.WalkStates.{sized_data, sized_is_set}
use Rattle.spv_consts.proofs.WalkPlaces.{wider}
use Rattle.spv_base.proofs.Exports.{each_weaker}

-- a constant has the type of its id, which is data and among the first types, and its cells fill it
abbrev pub IsFilled : List Inst → Types → ℕ → ℕ × Row → Type 0
IsFilled insts ts known c = IsAmong ts known c.1.ty × (option_map (λ (i : Inst). i.ty) (defining insts c.0) ≡ Some c.1.ty) × (is_data (form_of ts c.1.ty) ≡ true) × FillType ts c.1.ty c.1.cells

-- a constant has a value
abbrev pub HasValue : Constants → Inst → Type 0
HasValue constants i = is_constant i.op ≡ true → IsSome (reads i.id constants)

-- What is so in the state after some instructions. Their types were passed, and only lengths of arrays set them apart from the
-- declared types: numbers and kinds stayed, and no array lost a length.
pub record Follows (insts front : List Inst) (s : State) : Type 0 where
  pub known : s.known ≡ length (types_in insts front)
  pub numbers : (q : ℕ) → number_of s.types q ≡ number_of (types_read insts) q
  pub unset : (q : ℕ) → IsUnset (form_of s.types q) → IsUnset (form_of (types_read insts) q)
  pub kinds : (q : ℕ) → is_data (form_of s.types q) ≡ is_data (form_of (types_read insts) q)
  pub sound : AreSound s.types
  pub complete : AreComplete s.types s.known
  pub shaped : AllByRecursion (IsFilled insts s.types s.known) s.values
  pub valued : AllByRecursion (HasValue s.values) front

-- ---- no instruction is passed yet

pub follows_start : (insts : List Inst) (s : State) → s.known ≡ 0 → s.types ≡ types_read insts → s.values ≡ [] → AreSound (types_read insts) → Follows insts [] s
unfolding types_in
follows_start insts s known types values sound = record {
  known = known;
  numbers = λ q. ap (λ (ts : Types). number_of ts q) types;
  unset = λ q u. subst (λ (ts : Types). IsUnset (form_of ts q)) types u;
  kinds = λ q. ap (λ (ts : Types). is_data (form_of ts q)) types;
  sound = subst AreSound (sym types) sound;
  complete = λ id among u. let below : among.number < s.known = among.below in absurd (omega arith);
  shaped = subst (λ (cs : Constants). AllByRecursion (IsFilled insts s.types s.known) cs) (sym values) tt;
  valued = tt;
}

-- ---- one more type

types_more : (insts front : List Inst) (i : Inst) (f : Form) → defined_form insts i ≡ Some f → length (types_in insts (front ++ i ∷ [])) ≡ length (types_in insts front) + 1
unfolding types_in
types_more insts front i f e =
    let own : types_in insts (i ∷ []) ≡ (i.id, f) ∷ [] = rw e refl in
    rw (types_joined, own) (length-append (types_in insts front) ((i.id, f) ∷ []))

types_same : (insts front : List Inst) (i : Inst) → defined_form insts i ≡ None → length (types_in insts (front ++ i ∷ [])) ≡ length (types_in insts front)
unfolding types_in
types_same insts front i e =
    let own : types_in insts (i ∷ []) ≡ [] = rw e refl in
    rw (types_joined, own, append-nil) refl

pub type_follows : (insts front : List Inst) (i : Inst) (s : State) (f : Form) → Follows insts front s → defined_form insts i ≡ Some f → is_constant i.op ≡ false → number_of s.types i.id ≡ Some s.known → (IsUnset (form_of s.types i.id) → ⊥)
    → Follows insts (front ++ i ∷ []) (with_type s)
type_follows insts front i s f follows e other number is_set = record {
  known = ap (λ n. n + 1) follows.known ∙ sym (types_more insts front i f e);
  numbers = follows.numbers;
  unset = follows.unset;
  kinds = follows.kinds;
  sound = follows.sound;
  complete = λ id among. by_number id among (cases_lt among.number s.known);
  shaped = each_weaker (IsFilled insts s.types s.known) (IsFilled insts s.types (s.known + 1)) (λ c shaped. (wider s.types s.known (s.known + 1) c.1.ty (omega arith) shaped.0, shaped.1, shaped.2, shaped.3)) s.values follows.shaped;
  valued = each_push (HasValue s.values) front i follows.valued (λ constant. let clash : true ≡ false = sym constant ∙ other in absurd (cc));
}
  where
    by_number : (id : ℕ) (among : IsAmong s.types (s.known + 1) id) → (among.number < s.known) ⊎ (s.known ≤ among.number) → IsUnset (form_of s.types id) → ⊥
    by_number id among (inl less) u = follows.complete id (record { number = among.number; is = among.is; below = less }) u
    by_number id among (inr more) u =
        let below : among.number < s.known + 1 = among.below in
        let last : among.number ≡ s.known = omega arith in
        let same : id ≡ i.id = same_number s.types id i.id s.known (among.is ∙ ap Some last) number in
        is_set (subst (λ (q : ℕ). IsUnset (form_of s.types q)) same u)

-- ---- one more constant, or any other instruction

read_more : (cs : Constants) (c : ℕ × Row) (id : ℕ) → IsSome (reads id cs) → IsSome (reads id (cs ++ c ∷ []))
read_more [] c id h = cc
read_more (d ∷ cs) c id h = by_test (d.0 == id) h (read_more cs c id)
  where
    by_test : (b : Bool) → IsSome (if b then Some d.1 else reads id cs) → (IsSome (reads id cs) → IsSome (reads id (cs ++ c ∷ []))) → IsSome (if b then Some d.1 else reads id (cs ++ c ∷ []))
    by_test true e rest = refl
    by_test false e rest = rest e

read_new : (cs : Constants) (id : ℕ) (v : Row) → IsSome (reads id (cs ++ (id, v) ∷ []))
read_new [] id v = let own : eqb id id ≡ true = eq-eqb id id refl in rw own refl
read_new (d ∷ cs) id v = by_test (d.0 == id) (read_new cs id v)
  where
    by_test : (b : Bool) → IsSome (reads id (cs ++ (id, v) ∷ [])) → IsSome (if b then Some d.1 else reads id (cs ++ (id, v) ∷ []))
    by_test true rest = refl
    by_test false rest = rest

pub constant_follows : (m : Context) (front : List Inst) (i : Inst) (s : State) → Follows m.all front s → defined_form m.all i ≡ None → defining m.all i.id ≡ Some i → IsAmong s.types s.known i.ty
    → is_data (form_of s.types i.ty) ≡ true → FillType s.types i.ty (cells_of m s i) → Follows m.all (front ++ i ∷ []) (with_constant m s i)
constant_follows m front i s follows e own among data_is fills = record {
  known = follows.known ∙ sym (types_same m.all front i e);
  numbers = follows.numbers;
  unset = follows.unset;
  kinds = follows.kinds;
  sound = follows.sound;
  complete = follows.complete;
  shaped = each_push (IsFilled m.all s.types s.known) s.values (i.id, value_of m s i) follows.shaped
      (among, ap (option_map (λ (j : Inst). j.ty)) own, data_is, fills);
  valued = each_push (HasValue (s.values ++ (i.id, value_of m s i) ∷ [])) front i
      (each_weaker (HasValue s.values) (HasValue (s.values ++ (i.id, value_of m s i) ∷ [])) (λ j valued constant. read_more s.values (i.id, value_of m s i) j.id (valued constant)) front follows.valued)
      (λ constant. read_new s.values i.id (value_of m s i));
}

pub other_follows : (insts front : List Inst) (i : Inst) (s : State) → Follows insts front s → defined_form insts i ≡ None → is_constant i.op ≡ false → Follows insts (front ++ i ∷ []) s
other_follows insts front i s follows e other = record {
  known = follows.known ∙ sym (types_same insts front i e);
  numbers = follows.numbers;
  unset = follows.unset;
  kinds = follows.kinds;
  sound = follows.sound;
  complete = follows.complete;
  shaped = follows.shaped;
  valued = each_push (HasValue s.values) front i follows.valued (λ constant. let clash : true ≡ false = sym constant ∙ other in absurd (cc));
}

-- ---- the length of an array

-- the leaves of a type before an array stay what they are
pub widths_kept : (ts : Types) (id k n q : ℕ) → number_of ts id ≡ Some k → IsAmong ts k q → leaf_widths (with_length ts id n) q ≡ leaf_widths ts q
unfolding leaf_widths widths_among
widths_kept ts id k n q number among = in_first_kept [] widths_step ts id k n q number among

module _
    (sound_kept : (ts : Types) (id n : ℕ) → AreSound ts → AreSound (with_length ts id n))
    (number_kept : (ts : Types) (id n q : ℕ) → number_of (with_length ts id n) q ≡ number_of ts q)
    (other_kept : (ts : Types) (id n q : ℕ) → id ≢ q → form_of (with_length ts id n) q ≡ form_of ts q)
    (own_set : (ts : Types) (id n : ℕ) (f : Form) → form_of ts id ≡ Some f → form_of (with_length ts id n) id ≡ Some (with_size n f))
  where
    pub length_sets : (ts : Types) (id n k : ℕ) → number_of ts id ≡ Some k → IsUnset (form_of (with_length ts id n) id) → ⊥
    length_sets ts id n k number u =
        let form = number_form ts id k (0, Void) number in
        let own = own_set ts id n _ form in
        sized_is_set n _ (subst IsUnset own u)

    length_kinds : (ts : Types) (id n k : ℕ) → number_of ts id ≡ Some k → is_data (form_of (with_length ts id n) id) ≡ is_data (form_of ts id)
    length_kinds ts id n k number =
        let form = number_form ts id k (0, Void) number in
        let own = own_set ts id n _ form in
        ap is_data own ∙ sized_data n _ ∙ sym (ap is_data form)

    pub earlier_among : (ts : Types) (id n k q : ℕ) → IsAmong ts k q → IsAmong (with_length ts id n) k q
    earlier_among ts id n k q among = record { number = among.number; is = number_kept ts id n q ∙ among.is; below = among.below }

    pub length_follows : (insts front : List Inst) (s : State) (id n : ℕ) → Follows insts front s → number_of s.types id ≡ Some s.known → Follows insts front (record s { types = with_length s.types id n })
    length_follows insts front s id n follows number = record {
      known = follows.known;
      numbers = λ q. number_kept s.types id n q ∙ follows.numbers q;
      unset = λ q. unset_by q (cases_eq id q);
      kinds = λ q. kinds_by q (cases_eq id q);
      sound = sound_kept s.types id n follows.sound;
      complete = λ q among. complete_by q among (cases_eq id q);
      shaped = each_weaker (IsFilled insts s.types s.known) (IsFilled insts (with_length s.types id n) s.known)
          (λ c shaped. (
            earlier_among s.types id n s.known c.1.ty shaped.0,
            shaped.1,
            kinds_by c.1.ty (cases_eq id c.1.ty) ∙ sym (follows.kinds c.1.ty) ∙ shaped.2,
            subst (λ (ws : List ℕ). Fill ws c.1.cells) (sym (widths_kept s.types id s.known n c.1.ty number shaped.0)) shaped.3,
          )) s.values follows.shaped;
      valued = follows.valued;
    }
      where
        unset_by : (q : ℕ) → (id ≡ q) ⊎ (id ≡ q → ⊥) → IsUnset (form_of (with_length s.types id n) q) → IsUnset (form_of (types_read insts) q)
        unset_by q (inl same) u = absurd (length_sets s.types id n s.known number (subst (λ (p : ℕ). IsUnset (form_of (with_length s.types id n) p)) (sym same) u))
        unset_by q (inr apart) u = follows.unset q (subst IsUnset (other_kept s.types id n q apart) u)

        kinds_by : (q : ℕ) → (id ≡ q) ⊎ (id ≡ q → ⊥) → is_data (form_of (with_length s.types id n) q) ≡ is_data (form_of (types_read insts) q)
        kinds_by q (inl same) = subst (λ (p : ℕ). is_data (form_of (with_length s.types id n) p) ≡ is_data (form_of (types_read insts) p)) same (length_kinds s.types id n s.known number ∙ follows.kinds id)
        kinds_by q (inr apart) = ap is_data (other_kept s.types id n q apart) ∙ follows.kinds q

        complete_by : (q : ℕ) → IsAmong (with_length s.types id n) s.known q → (id ≡ q) ⊎ (id ≡ q → ⊥) → IsUnset (form_of (with_length s.types id n) q) → ⊥
        complete_by q among (inl same) u = length_sets s.types id n s.known number (subst (λ (p : ℕ). IsUnset (form_of (with_length s.types id n) p)) (sym same) u)
        complete_by q among (inr apart) u =
            follows.complete q (record { number = among.number; is = sym (number_kept s.types id n q) ∙ among.is; below = among.below }) (subst IsUnset (other_kept s.types id n q apart) u)
