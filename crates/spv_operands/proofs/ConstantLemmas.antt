-- The id of each constant stands for a constant.
use Rattle.std.proofs.Common.{◌≡◌, ◌≢◌, ◌⊎◌, ◌∙◌, inl, inr, ℕ, zero, suc, ◌<◌, ◌==◌, ◌&&◌, Bool, true, false, List, [], ◌∷◌, ◌++◌, Option, Some, None, refl, sym, ap, subst, arith}
use Rattle.std.proofs.lemmas.Bool.{both_ways, eq-eqb, eqb-true, lt-ltb, ne_eqb, or_right}
use Rattle.std.proofs.lemmas.List.Elements.{All-contains_itself, recursion_from_All}
use Rattle.std.specs.Prelude.{find, if◌then◌else◌, nat_lt, not, unwrap_or}
use Rattle.std.specs.List.{AllByRecursion, Contains}
use Rattle.std.specs.Option.{is_some, option_map}
use Rattle.spv_base.specs.Entries.{reads}
use Rattle.spv_base.specs.Order.{AreDistinct}
use Rattle.spv_base.specs.declared.instructions.Inst.{Inst}
use Rattle.spv_index.specs.declared.classes.Class.{Class}
use Rattle.spv_index.specs.declared.classes.Class.TheVariants.{Function as Beginning, Parameter, End, Label, Line, Phi, Variable, Terminator, Passed, Executable}
use Rattle.spv_index.specs.declared.positions.Position.{Position}
use Rattle.spv_index.specs.declared.positions.Stage.{Stage}
use Rattle.spv_index.specs.declared.positions.Stage.TheVariants.{Outside}
use Rattle.spv_index.specs.Classes.{class_of, sets_of}
use Rattle.spv_index.specs.Definitions.{before_functions, has_result}
use Rattle.spv_index.specs.Positions.{Stand, in_function, outside, position_after, stand_of, stands, stands_of}
use Rattle.spv_types.specs.Constants.{is_constant}
use Rattle.spv_types.specs.Laws.{HasResult}
use Rattle.spv_types.specs.Types.{Types}
use Rattle.spv_types.specs.Typing.{defined_form}
use Rattle.spv_consts.specs.Build.{context_of, start_of, state_of}
use Rattle.spv_consts.specs.Context.{Context}
use Rattle.spv_consts.specs.Evaluation.{value_of}
use Rattle.spv_consts.specs.Lengths.{is_unset, length_at, lengthened, with_array, with_length_if}
use Rattle.spv_types.specs.Types.{form_of, with_length}
use Rattle.spv_consts.specs.Rules.{keeps_rules}
use Rattle.spv_consts.specs.State.{State, is_next}
use Rattle.spv_consts.specs.Steps.{breaks_limit, with_entry, left_out, after_one, after_all, with_constant, with_type}
use Rattle.spv_consts.specs.Table.{Constants, Row}
use Rattle.spv_consts.proofs.Exports.{ends}
use Rattle.spv_valid.specs.Acceptance.{Accepted, IsAccepted, Passes}
use Rattle.spv_valid.specs.Meanings.{meaning_at, meaning_of, outside_meanings}
use Rattle.spv_valid.specs.Validity.{IsValid}
use Rattle.spv_valid.specs.declared.meanings.Meaning.TheVariants.{Constant}
use Rattle.spv_valid.proofs.Exports.{accepted_passes}
use Rattle.spv_operands.proofs.MeaningLemmas.{beginning_opcode, constant_opcode}
use Rattle.spv_operands.proofs.ListLemmas.{each_contained}

-- ---- each constant is that of an instruction

pub record IsDefined (insts : List Inst) (id : ℕ) : Type 0 where
  pub inst : Inst
  pub there : Contains insts inst
  pub named : inst.id ≡ id
  pub constant : is_constant inst.op ≡ true

abbrev AreDefined : List Inst → Constants → Type 0
AreDefined insts cs = (id : ℕ) (r : Row) → reads id cs ≡ Some r → IsDefined insts id

read_push : (cs : Constants) (c : ℕ × Row) (id : ℕ) (r : Row) → reads id (cs ++ c ∷ []) ≡ Some r → (reads id cs ≡ Some r) ⊎ (c.0 ≡ id)
read_push [] c id r h = by_test (c.0 == id) refl h
  where
    by_test : (b : Bool) → (c.0 == id) ≡ b → (if b then Some c.1 else None) ≡ Some r → (reads id [] ≡ Some r) ⊎ (c.0 ≡ id)
    by_test true e g = inr (eqb-true c.0 id e)
    by_test false e g = absurd (cc)
read_push (d ∷ cs) c id r h = by_test (d.0 == id) h (read_push cs c id r)
  where
    by_test : (b : Bool) → (if b then Some d.1 else reads id (cs ++ c ∷ [])) ≡ Some r → (reads id (cs ++ c ∷ []) ≡ Some r → (reads id cs ≡ Some r) ⊎ (c.0 ≡ id))
        → ((if b then Some d.1 else reads id cs) ≡ Some r) ⊎ (c.0 ≡ id)
    by_test true g rest = inl g
    by_test false g rest = rest g

entered_defined : (insts : List Inst) (m : Context) (s : State) (i : Inst) → AreDefined insts s.values → Contains insts i → AreDefined insts (with_entry m s i).values
entered_defined insts m s i so_far there = by_tests (is_next s i.id) (is_constant i.op) refl
  where
    added : is_constant i.op ≡ true → AreDefined insts (s.values ++ (i.id, value_of m s i) ∷ [])
    added constant id r h = by_push (read_push s.values (i.id, value_of m s i) id r h)
      where
        by_push : (reads id s.values ≡ Some r) ⊎ (i.id ≡ id) → IsDefined insts id
        by_push (inl g) = so_far id r g
        by_push (inr own) = record { inst = i; there = there; named = own; constant = constant }

    by_tests : (b c : Bool) → is_constant i.op ≡ c → AreDefined insts (if b then with_type s else (if c then with_constant m s i else s)).values
    by_tests true c e = so_far
    by_tests false true e = added e
    by_tests false false e = so_far

lengthened_values : (m : Context) (s t : State) (i : Inst) → lengthened m s i ≡ Some t → t.values ≡ s.values
lengthened_values m s t i h = by_length (length_at m s i) h
  where
    array_values : (n : ℕ) (b : Bool) → (if b then record s { types = with_length s.types i.id n } else s).values ≡ s.values
    array_values n true = refl
    array_values n false = refl

    by_limit : (n : ℕ) (b : Bool) → (if b then None else Some (with_array s i.id n)) ≡ Some t → t.values ≡ s.values
    by_limit n true e = absurd (cc)
    by_limit n false e =
        let same : with_array s i.id n ≡ t = cc in
        sym (ap (λ (u : State). u.values) same) ∙ array_values n (is_next s i.id && is_unset (form_of s.types i.id))

    by_length : (o : Option ℕ) → with_length_if s i.id o ≡ Some t → t.values ≡ s.values
    by_length None e = let same : s ≡ t = cc in sym (ap (λ (u : State). u.values) same)
    by_length (Some n) e = by_limit n (nat_lt 4194304 n) e

stepped_defined : (insts : List Inst) (m : Context) (s : State) (i : Inst) → AreDefined insts s.values → Contains insts i → AreDefined insts (after_one m s i).values
unfolding after_one
stepped_defined insts m s i so_far there = by_test (keeps_rules m s i && not (breaks_limit m s i))
  where
    by_length : (o : Option State) → lengthened m s i ≡ o → AreDefined insts (with_entry m (unwrap_or o s) i).values
    by_length None e = entered_defined insts m s i so_far there
    by_length (Some t) e = entered_defined insts m t i (subst (AreDefined insts) (sym (lengthened_values m s t i e)) so_far) there

    passed : (b : Bool) → AreDefined insts (if b then with_type s else s).values
    passed true = so_far
    passed false = so_far

    by_test : (b : Bool) → AreDefined insts (if b then with_entry m (unwrap_or (lengthened m s i) s) i else left_out s i).values
    by_test true = by_length (lengthened m s i) refl
    by_test false = passed (is_next s i.id)

walked_defined : (insts : List Inst) (m : Context) (s : State) (is : List Inst) → AreDefined insts s.values → AllByRecursion (Contains insts) is → AreDefined insts (after_all m s is).values
unfolding after_all
walked_defined insts m s [] so_far there = so_far
walked_defined insts m s (i ∷ is) so_far (first, rest) = walked_defined insts m (after_one m s i) is (stepped_defined insts m s i so_far first) rest

constants_defined : (a : Accepted) → IsAccepted a → AreDefined (before_functions a.insts) a.constants
constants_defined a is =
    let passes : Passes a is.name is.over = accepted_passes a is.name is.over is.is in
    let ts : Types = passes.declared in
    let front : List Inst = before_functions a.insts in
    let ended = ends a.insts ts is.over (a.types, a.constants) passes.constants in
    let start : AreDefined front (start_of ts).values = λ id r h. absurd (cc) in
    let walk : AreDefined front (state_of ts a.insts is.over).values
    = walked_defined front (context_of ts a.insts is.over) (start_of ts) front start (recursion_from_All (Contains front) front (All-contains_itself front)) in
    let end : a.constants ≡ (state_of ts a.insts is.over).values = ap (λ (k : Types × Constants). k.1) ended.1 in
    subst (AreDefined front) (sym end) walk

-- ---- no function has begun before the functions

pub variable_outside : (stage : Stage) → stage ≡ Outside → (c : Class) (position : Position) (i : Inst) → position.stage ≡ stage → (c ≡ Beginning → ⊥) → (position_after position c i).stage ≡ Outside
variable_outside stage out Beginning position i is apart = absurd (apart refl)
variable_outside stage out Parameter position i is apart = is ∙ out
variable_outside stage out End position i is apart = refl
variable_outside stage out Label position i is apart = let here : position.stage ≡ Outside = is ∙ out in rw here refl
variable_outside stage out Line position i is apart = is ∙ out
variable_outside stage out Phi position i is apart = is ∙ out
variable_outside stage out Variable position i is apart = let here : position.stage ≡ Outside = is ∙ out in rw here refl
variable_outside stage out Terminator position i is apart = let here : position.stage ≡ Outside = is ∙ out in rw here refl
variable_outside stage out Passed position i is apart = let here : position.stage ≡ Outside = is ∙ out in rw here refl
variable_outside stage out Executable position i is apart = let here : position.stage ≡ Outside = is ∙ out in rw here refl

each_before : (P : Inst → Type 0) (insts : List Inst) → AllByRecursion P insts → AllByRecursion P (before_functions insts)
unfolding before_functions
each_before P [] h = tt
each_before P (i ∷ insts) (first, rest) = by_op (i.op == 54) (each_before P insts rest)
  where
    by_op : (b : Bool) → AllByRecursion P (before_functions insts) → AllByRecursion P (if b then [] else i ∷ before_functions insts)
    by_op true behind = tt
    by_op false behind = (first, behind)

-- the stand of the instruction with an id before the functions
pub record StandsOutside (i : Inst) (found : Option Stand) : Type 0 where
  pub stand : Stand
  pub is : found ≡ Some stand
  pub inst : stand.inst ≡ i
  pub out : stand.position.stage ≡ Outside

stand_found : (sets : List (ℕ × Bool)) (position : Position) (insts : List Inst) (i : Inst) → position.stage ≡ Outside → AreDistinct insts → 0 < i.id → Contains (before_functions insts) i
    → StandsOutside i (find (λ (s : Stand). has_result i.id s.inst) (stands sets position insts))
unfolding before_functions
stand_found sets position [] i out distinct positive (k, lt, is) = absurd (omega arith)
stand_found sets position (j ∷ insts) i out (first, rest) positive at =
    by_op (j.op == 54) refl at (λ after there. stand_found sets (position_after position (class_of sets j) j) insts i after rest positive there)
  where
    here : Stand
    here = record { position = position; class = class_of sets j; inst = j }

    later : List Stand
    later = stands sets (position_after position (class_of sets j) j) insts

    differs : Contains (before_functions insts) i → (j.id ≡ 0) ⊎ AllByRecursion (λ (k : Inst). k.id ≢ j.id) insts → j.id ≢ i.id
    differs there (inl none) same = omega (arith, none, same, positive)
    differs there (inr others) same = each_contained (λ (k : Inst). k.id ≢ j.id) (before_functions insts) i (each_before (λ (k : Inst). k.id ≢ j.id) insts others) there (sym same)

    own : j ≡ i → StandsOutside i (if j.id == i.id then Some here else find (λ (s : Stand). has_result i.id s.inst) later)
    own same =
        let test : (j.id == i.id) ≡ true = eq-eqb j.id i.id (ap (λ (x : Inst). x.id) same) in
        record { stand = here; is = rw test refl; inst = same; out = out }

    other : j.id ≢ i.id → StandsOutside i (find (λ (s : Stand). has_result i.id s.inst) later) → StandsOutside i (if j.id == i.id then Some here else find (λ (s : Stand). has_result i.id s.inst) later)
    other apart found =
        let test : (j.id == i.id) ≡ false = ne_eqb j.id i.id apart in
        record { stand = found.stand; is = rw test found.is; inst = found.inst; out = found.out }

    by_op : (b : Bool) → (j.op == 54) ≡ b → Contains (if b then [] else j ∷ before_functions insts) i
        → ((position_after position (class_of sets j) j).stage ≡ Outside → Contains (before_functions insts) i → StandsOutside i (find (λ (s : Stand). has_result i.id s.inst) later))
        → StandsOutside i (if j.id == i.id then Some here else find (λ (s : Stand). has_result i.id s.inst) later)
    by_op true e (k, lt, is) found = absurd (omega arith)
    by_op false e (zero, lt, is) found = own is
    by_op false e (suc k, lt, is) found =
        let there : Contains (before_functions insts) i = (k, omega arith, is) in
        let begins_none : class_of sets j ≡ Beginning → ⊥ = λ c. both_ways (j.op == 54) e (eq-eqb j.op 54 (beginning_opcode sets j c)) in
        other (differs there first) (found (variable_outside position.stage out (class_of sets j) position j refl begins_none) there)

-- ---- so an id of a constant stands for one

meaning_outside : (s : Stand) (i : Inst) → s.inst ≡ i → s.position.stage ≡ Outside → is_constant i.op ≡ true → meaning_at s ≡ Constant
meaning_outside s i inst out constant =
    let aside : in_function s.position.stage ≡ false = ap in_function out in
    let found : reads s.inst.op (outside_meanings s.inst.ty) ≡ Some Constant = constant_opcode s.inst.op s.inst.ty (ap (λ (x : Inst). is_constant x.op) inst ∙ constant) in
    rw (aside, found) refl

stand_meant : (insts : List Inst) (i : Inst) → AreDistinct insts → 0 < i.id → i.id < 1048576 → Contains (before_functions insts) i → is_constant i.op ≡ true → meaning_of insts i.id ≡ Some Constant
unfolding stand_of
stand_meant insts i distinct low high there constant =
    let found : StandsOutside i (find (λ (s : Stand). has_result i.id s.inst) (stands_of insts)) = stand_found (sets_of insts) outside insts i refl distinct low there in
    let positive : nat_lt 0 i.id ≡ true = lt-ltb 0 i.id low in
    let bounded : nat_lt i.id 1048576 ≡ true = lt-ltb i.id 1048576 high in
    let meant : meaning_at found.stand ≡ Constant = meaning_outside found.stand i found.inst found.out constant in
    rw (positive, bounded) (ap (option_map meaning_at) found.is ∙ ap Some meant)

pub constant_meant : (a : Accepted) → IsAccepted a → IsValid a → (id : ℕ) (r : Row) → reads id a.constants ≡ Some r → meaning_of a.insts id ≡ Some Constant
constant_meant a is valid id r h =
    let defined : IsDefined (before_functions a.insts) id = constants_defined a is id r h in
    let results = each_before (HasResult a.insts) a.insts valid.named.results in
    let result : HasResult a.insts defined.inst = each_contained (HasResult a.insts) (before_functions a.insts) defined.inst results defined.there in
    let within = result (or_right (is_some (defined_form a.insts defined.inst)) (is_constant defined.inst.op) defined.constant) in
    subst (λ (k : ℕ). meaning_of a.insts k ≡ Some Constant) defined.named
    (stand_meant a.insts defined.inst valid.named.distinct within.0 within.1 defined.there defined.constant)
