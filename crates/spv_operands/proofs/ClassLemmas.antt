-- Where the variables of an accepted module live: those before the functions by the rules of their storage classes, and those of functions
-- in the class Function.
use Rattle.std.proofs.Common.{◌≡◌, ◌⊎◌, ◌∙◌, inl, inr, ℕ, zero, suc, ◌<◌, ◌==◌, ◌&&◌, ◌||◌, Bool, true, false, cond, List, [], ◌∷◌, ◌++◌, drop, length, Option, Some, None, Ok, refl, sym, ap, subst, arith}
use Rattle.std.proofs.lemmas.Bool.{and_parts, both_ways, eq-eqb, eqb-true, not-true, or_cases, or_left, or_right, and_from}
use Rattle.std.specs.Prelude.{find, if◌then◌else◌, nat_le, not, unwrap_or}
use Rattle.std.specs.List.{Contains, list_all}
use Rattle.std.specs.Option.{option_map}
use Rattle.spv_base.specs.Entries.{reads}
use Rattle.spv_base.specs.declared.causes.Refusal.{Refusal}
use Rattle.spv_base.specs.declared.instructions.Inst.{Inst}
use Rattle.spv_base.specs.Options.{holds}
use Rattle.spv_index.specs.declared.positions.Position.{Position}
use Rattle.spv_index.specs.declared.positions.Stage.TheVariants.{Outside}
use Rattle.spv_index.specs.Classes.{class_of, classes, is_debug, is_local, sets_of}
use Rattle.spv_index.specs.Definitions.{before_functions, decoration, defining, has_result, is_id}
use Rattle.spv_index.specs.Operands.{literal_operand}
use Rattle.spv_index.specs.Positions.{Stand, in_function, outside, position_after, stand_of, stands, stands_of}
use Rattle.spv_index.specs.declared.classes.Class.TheVariants.{Executable}
use Rattle.spv_types.specs.declared.forms.Form.{Form}
use Rattle.spv_types.specs.declared.forms.Form.TheVariants.{Void, Bool as Boolean, Int, Vector, Array, Runtime, Struct, Pointer, Function}
use Rattle.spv_types.specs.declared.queries.Pointed.{Pointed}
use Rattle.spv_types.specs.Build.{type_breaches, unless_refused}
use Rattle.spv_types.specs.InterfaceBlocks.{nothing}
use Rattle.spv_types.specs.Rules.{has_runtime, is_block, is_class, is_data, is_input, is_three_words, is_word, keeps_initializer, keeps_pointer, keeps_target}
use Rattle.spv_types.specs.Types.{Types, form_of}
use Rattle.spv_types.specs.Typing.{types_in, types_read}
use Rattle.spv_valid.specs.Below.spv_sections.specs.Sections.{fits_stage, is_line, may_follow, may_stand, order_breach, order_breaches, order_breaches_behind, part_at, part_by, part_of, rank, sections_of}
use Rattle.spv_consts.proofs.Exports.{kept_at}
use Rattle.spv_valid.specs.Below.spv_bodies.specs.Context.{Known, known_of}
use Rattle.spv_valid.specs.Below.spv_bodies.specs.Memory.{KeepsVariable}
use Rattle.spv_valid.specs.Acceptance.{Accepted, IsAccepted}
use Rattle.spv_valid.specs.Meanings.{inside_meanings, meaning_at, meaning_of, outside_meanings}
use Rattle.spv_valid.specs.Validity.{IsValid}
use Rattle.spv_valid.specs.declared.meanings.Meaning.{Meaning}
use Rattle.spv_valid.specs.declared.meanings.Meaning.TheVariants.{TypeDefinition, Constant, Undefined, ModuleVariable, Variable, Register, Label, Function as Begun, Other}
use Rattle.spv_valid.proofs.Exports.{accepted_passes}
use Rattle.spv_plans.proofs.Exports.{each_behind}
use Rattle.spv_operands.proofs.ConstantLemmas.{variable_outside}
use Rattle.spv_operands.proofs.FormLemmas.{AreAlike, erased_form, pointer_alike, types_alike}
use Rattle.spv_operands.proofs.ListLemmas.{each_contained}
use Rattle.spv_operands.proofs.MeaningLemmas.{beginning_opcode, key_unless, local_opcode, module_opcode, stand_defines}
use Rattle.spv_operands.proofs.VariableLemmas.{Stands, form_later, local_kept, place_of, variable_kept}
use Rattle.spv_types.proofs.Exports.{breach_none}

-- ---- tests

implied : (b c : Bool) → b ≡ true → (not b || c) ≡ true → c ≡ true
implied true c h g = g
implied false c h g = absurd (cc)

pub held : (x : ℕ) (o : Option ℕ) → holds x o ≡ true → o ≡ Some x
held x None h = absurd (cc)
held x (Some y) h = ap (λ (n : ℕ). Some n) (eqb-true y x h)

-- ---- forms, whatever the lengths of arrays are

block_settled : (o : Option Form) → is_block (erased_form o) ≡ is_block o
block_settled o = grind arith

word_settled : (o : Option Form) → is_word (erased_form o) ≡ is_word o
word_settled o = grind arith

words_settled : (ts : Types) (o : Option Form) → is_three_words ts (erased_form o) ≡ is_three_words ts o
words_settled ts o = grind arith

-- ---- variables before the functions

-- what acceptance gives of an OpVariable before the functions
pub record IsModuleVariable (a : Accepted) (i : Inst) : Type 0 where
  pub pointed : Pointed
  pub type : form_of a.types i.ty ≡ Some (Pointer pointed.class pointed.target)
  pub class : literal_operand i 0 ≡ Some pointed.class
  pub known : is_class pointed.class ≡ true
  pub other : (pointed.class == 7) ≡ false
  pub block : ((pointed.class == 12 || pointed.class == 2) || pointed.class == 9) ≡ true → is_block (form_of a.types pointed.target) ≡ true
  pub input : (pointed.class == 1) ≡ true → is_input a.types (decoration a.insts i.id 11) pointed.target ≡ true

module _ (a : Accepted) (is : IsAccepted a) (valid : IsValid a) where
  alike : AreAlike (types_read a.insts) a.types
  alike = types_alike a is

  module _ (front later : List Inst) (i : Inst) (place : before_functions a.insts ≡ front ++ i ∷ later) where
    -- a test of a form that asks for no length is passed later on too
    passes_later : (test : Option Form → Bool) → ((o : Option Form) → test (erased_form o) ≡ test o) → test None ≡ false → (q : ℕ) → test (form_of (types_in a.insts front) q) ≡ true → test (form_of a.types q) ≡ true
    passes_later test settled none q h = by_form (form_of (types_in a.insts front) q) refl h
      where
        by_form : (o : Option Form) → form_of (types_in a.insts front) q ≡ o → test o ≡ true → test (form_of a.types q) ≡ true
        by_form None e g = absurd (both_ways (test None) none g)
        by_form (Some f) e g =
            let there : form_of (types_read a.insts) q ≡ Some f = form_later a is valid front later i place q f e in
            sym (settled (form_of a.types q)) ∙ ap test (alike.forms q) ∙ settled (form_of (types_read a.insts) q) ∙ ap test there ∙ g

    words_later : (q : ℕ) → is_three_words (types_in a.insts front) (form_of (types_in a.insts front) q) ≡ true → is_three_words a.types (form_of a.types q) ≡ true
    words_later q h = passes_later (is_three_words a.types) (words_settled a.types) refl q (by_form (form_of (types_in a.insts front) q) h)
      where
        by_form : (o : Option Form) → is_three_words (types_in a.insts front) o ≡ true → is_three_words a.types o ≡ true
        by_form None g = absurd (cc)
        by_form (Some Void) g = absurd (cc)
        by_form (Some Boolean) g = absurd (cc)
        by_form (Some (Int width sign)) g = absurd (cc)
        by_form (Some (Vector component count)) g =
            let parts = and_parts (count == 3) (is_word (form_of (types_in a.insts front) component)) g in
            and_from (count == 3) (is_word (form_of a.types component)) parts.0 (passes_later is_word word_settled refl component parts.1)
        by_form (Some (Array element n stride)) g = absurd (cc)
        by_form (Some (Runtime element stride)) g = absurd (cc)
        by_form (Some (Struct members block)) g = absurd (cc)
        by_form (Some (Pointer class target)) g = absurd (cc)
        by_form (Some (Function returns parameters)) g = absurd (cc)

    input_later : (kind : Option ℕ) (q : ℕ) → is_input (types_in a.insts front) kind q ≡ true → is_input a.types kind q ≡ true
    input_later None q h = absurd (cc)
    input_later (Some b) q h = by_either (or_cases (three && is_three_words (types_in a.insts front) (form_of (types_in a.insts front) q)) (b == 29 && is_word (form_of (types_in a.insts front) q)) h)
      where
        three : Bool
        three = (b == 24 || b == 26) || (b == 27 || b == 28)

        by_either : ((three && is_three_words (types_in a.insts front) (form_of (types_in a.insts front) q)) ≡ true) ⊎ ((b == 29 && is_word (form_of (types_in a.insts front) q)) ≡ true)
            → ((three && is_three_words a.types (form_of a.types q)) || (b == 29 && is_word (form_of a.types q))) ≡ true
        by_either (inl words) =
            let parts = and_parts three (is_three_words (types_in a.insts front) (form_of (types_in a.insts front) q)) words in
            or_left (three && is_three_words a.types (form_of a.types q)) (b == 29 && is_word (form_of a.types q)) (and_from three (is_three_words a.types (form_of a.types q)) parts.0 (words_later q parts.1))
        by_either (inr word) =
            let parts = and_parts (b == 29) (is_word (form_of (types_in a.insts front) q)) word in
            or_right (three && is_three_words a.types (form_of a.types q)) (b == 29 && is_word (form_of a.types q)) (and_from (b == 29) (is_word (form_of a.types q)) parts.0 (passes_later is_word word_settled refl q parts.1))

    of_pointer : (class target : ℕ) → form_of (types_in a.insts front) i.ty ≡ Some (Pointer class target) → (holds class (literal_operand i 0) && keeps_target a.insts (types_in a.insts front) i class target) ≡ true → IsModuleVariable a i
    of_pointer class target e h =
        let ts : Types = types_in a.insts front in
        let own = and_parts (holds class (literal_operand i 0)) (keeps_target a.insts ts i class target) h in
        let first = and_parts (not (class == 7)) _ own.1 in
        let second = and_parts (not (has_runtime ts target) || class == 12) _ first.1 in
        let third = and_parts (not ((class == 12 || class == 2) || class == 9) || is_block (form_of ts target)) _ second.1 in
        let fourth = and_parts (not (class == 1) || is_input ts (decoration a.insts i.id 11) target) (keeps_initializer a.insts class target i) third.1 in
        let type : form_of a.types i.ty ≡ Some (Pointer class target) = pointer_alike (types_read a.insts) a.types alike i.ty class target (form_later a is valid front later i place i.ty (Pointer class target) e) in
        record {
          pointed = record { class = class; target = target };
          type = type;
          class = held class (literal_operand i 0) own.0;
          known = (and_parts (is_class class) (is_data (form_of a.types target)) (valid.types.kept i.ty (Pointer class target) type)).0;
          other = not-true (class == 7) first.0;
          block = λ buffer. passes_later is_block block_settled refl target (implied ((class == 12 || class == 2) || class == 9) (is_block (form_of ts target)) buffer third.0);
          input = λ one. input_later (decoration a.insts i.id 11) target (implied (class == 1) (is_input ts (decoration a.insts i.id 11) target) one fourth.0);
        }

    pub variable_at : i.op ≡ 59 → IsModuleVariable a i
    variable_at op =
        by_form (form_of (types_in a.insts front) i.ty) refl
        (variable_kept a.insts (types_in a.insts front) i op (kept_at a.insts [] front later i (subst (λ (xs : List Inst). type_breaches a.insts [] xs ≡ []) place valid.declared)))
      where
        by_form : (o : Option Form) → form_of (types_in a.insts front) i.ty ≡ o → keeps_pointer a.insts (types_in a.insts front) i o ≡ true → IsModuleVariable a i
        by_form None e h = absurd (cc)
        by_form (Some Void) e h = absurd (cc)
        by_form (Some Boolean) e h = absurd (cc)
        by_form (Some (Int width sign)) e h = absurd (cc)
        by_form (Some (Vector component count)) e h = absurd (cc)
        by_form (Some (Array element n stride)) e h = absurd (cc)
        by_form (Some (Runtime element stride)) e h = absurd (cc)
        by_form (Some (Struct members block)) e h = absurd (cc)
        by_form (Some (Pointer class target)) e h = of_pointer class target e h
        by_form (Some (Function returns parameters)) e h = absurd (cc)

parted : (xs : List Inst) (i : Inst) → Contains xs i → (front : List Inst) × (later : List Inst) × (xs ≡ front ++ i ∷ later)
parted [] i (k, lt, at) = absurd (omega arith)
parted (x ∷ xs) i (zero, lt, at) = ([], xs, ap (λ (y : Inst). y ∷ xs) at)
parted (x ∷ xs) i (suc k, lt, at) = let rest = parted xs i (k, omega arith, at) in (x ∷ rest.0, rest.1, ap (λ (ys : List Inst). x ∷ ys) rest.2)

pub front_variable : (a : Accepted) → IsAccepted a → IsValid a → (i : Inst) → Contains (before_functions a.insts) i → i.op ≡ 59 → IsModuleVariable a i
front_variable a is valid i there op = let place = parted (before_functions a.insts) i there in variable_at a is valid place.0 place.1 i place.2 op

-- ---- variables of functions

pub record IsLocalVariable (a : Accepted) (i : Inst) : Type 0 where
  pub pointed : Pointed
  pub type : form_of a.types i.ty ≡ Some (Pointer pointed.class pointed.target)
  pub class : pointed.class ≡ 7
  pub literal : literal_operand i 0 ≡ Some pointed.class

pub behind_variable : (a : Accepted) → IsValid a → (i : Inst) → Contains (drop (length (before_functions a.insts)) a.insts) i → i.op ≡ 59 → IsLocalVariable a i
behind_variable a valid i there op =
    let k : Known = known_of a.types a.constants a.insts in
    let all = each_behind k (λ (j : Inst). j.op ≡ 59 → KeepsVariable k j) (local_kept k) a.insts valid.rules in
    let kept : KeepsVariable k i = each_contained (λ (j : Inst). j.op ≡ 59 → KeepsVariable k j) (drop (length (before_functions a.insts)) a.insts) i all there op in
    record { pointed = kept.0; type = kept.1; class = kept.2.0.0; literal = kept.2.0.1 ∙ ap (λ (n : ℕ). Some n) (sym kept.2.0.0) }

-- ---- all of them

-- the storage class of an OpVariable is that of its pointer type
pub record HasClass (a : Accepted) (i : Inst) : Type 0 where
  pub pointed : Pointed
  pub type : form_of a.types i.ty ≡ Some (Pointer pointed.class pointed.target)
  pub class : literal_operand i 0 ≡ Some pointed.class

pub class_known : (a : Accepted) → IsAccepted a → IsValid a → (i : Inst) → Contains a.insts i → i.op ≡ 59 → HasClass a i
class_known a is valid i at op = by_place (place_of a.insts i at)
  where
    by_place : Stands (before_functions a.insts) a.insts (drop (length (before_functions a.insts)) a.insts) i → HasClass a i
    by_place (inl (front, later, e)) = let v = variable_at a is valid front later i e op in record { pointed = v.pointed; type = v.type; class = v.class }
    by_place (inr there) = let v = behind_variable a valid i there op in record { pointed = v.pointed; type = v.type; class = v.literal }

-- ---- where they stand

abbrev stand_at : List (ℕ × Bool) → Position → Inst → Stand
stand_at sets position x = record { position = position; class = class_of sets x; inst = x }

-- one that is found is among the instructions
found_there : (p : Inst → Bool) (sets : List (ℕ × Bool)) (position : Position) (insts : List Inst) (s : Stand) → find (λ (x : Stand). p x.inst) (stands sets position insts) ≡ Some s → Contains insts s.inst
found_there p sets position [] s h = absurd (cc)
found_there p sets position (x ∷ is) s h = by_test (p x) h (found_there p sets (position_after position (class_of sets x) x) is s)
  where
    by_test : (b : Bool) → cond b (Some (stand_at sets position x)) (find (λ (y : Stand). p y.inst) (stands sets (position_after position (class_of sets x) x) is)) ≡ Some s
        → (find (λ (y : Stand). p y.inst) (stands sets (position_after position (class_of sets x) x) is) ≡ Some s → Contains is s.inst) → Contains (x ∷ is) s.inst
    by_test true g rest =
        let same : stand_at sets position x ≡ s = cc in
        (0, omega arith, ap (λ (t : Stand). t.inst) same)
    by_test false g rest =
        let there : Contains is s.inst = rest g in
        let lt : there.0 < length is = there.1 in
        (suc there.0, omega arith, there.2)

-- one that stands in a function is behind the first OpFunction
inside_behind : (p : Inst → Bool) (sets : List (ℕ × Bool)) (position : Position) (insts : List Inst) (s : Stand) → position.stage ≡ Outside → find (λ (x : Stand). p x.inst) (stands sets position insts) ≡ Some s
    → in_function s.position.stage ≡ true → Contains (drop (length (before_functions insts)) insts) s.inst
unfolding before_functions
inside_behind p sets position [] s out h inside = absurd (cc)
inside_behind p sets position (x ∷ is) s out h inside =
    by_op (x.op == 54) refl (p x) h (found_there p sets position (x ∷ is) s h) (λ after g. inside_behind p sets (position_after position (class_of sets x) x) is s after g inside)
  where
    by_op : (b : Bool) → (x.op == 54) ≡ b → (c : Bool)
        → cond c (Some (stand_at sets position x)) (find (λ (y : Stand). p y.inst) (stands sets (position_after position (class_of sets x) x) is)) ≡ Some s → Contains (x ∷ is) s.inst
        → ((position_after position (class_of sets x) x).stage ≡ Outside → find (λ (y : Stand). p y.inst) (stands sets (position_after position (class_of sets x) x) is) ≡ Some s
        → Contains (drop (length (before_functions is)) is) s.inst) → Contains (drop (length (if b then [] else x ∷ before_functions is)) (x ∷ is)) s.inst
    by_op true e c g there rest = there
    by_op false e true g there rest =
        let same : stand_at sets position x ≡ s = cc in
        let aside : in_function s.position.stage ≡ false = sym (ap (λ (t : Stand). in_function t.position.stage) same) ∙ ap in_function out in
        absurd (both_ways (in_function s.position.stage) aside inside)
    by_op false e false g there rest = rest (variable_outside position.stage out (class_of sets x) position x refl (λ c. both_ways (x.op == 54) e (eq-eqb x.op 54 (beginning_opcode sets x c)))) g

-- ---- the order of the sections

variable_class : (debug local : Bool) → is_line (unwrap_or (reads 59 (classes debug local)) Executable) ≡ false
variable_class true true = refl
variable_class true false = refl
variable_class false true = refl
variable_class false false = refl

variable_part : (sets : List (ℕ × Bool)) (x : Inst) → x.op ≡ 59 → part_of (class_of sets x) x.op ≡ part_by 59
variable_part sets x op =
    let line : is_line (class_of sets x) ≡ false = rw op (variable_class (is_debug sets x) (is_local x)) in
    rw line (rw op refl)

function_rank : (sets : List (ℕ × Bool)) (x : Inst) → x.op ≡ 54 → rank (part_of (class_of sets x) x.op) ≡ 9
function_rank sets x op = rw op refl

all_parts : (test : Stand → Bool) (xs : List Stand) (y : Stand) → list_all test (xs ++ y ∷ []) ≡ true → (list_all test xs ≡ true) × (test y ≡ true)
all_parts test [] y h = (refl, (and_parts (test y) true h).0)
all_parts test (x ∷ xs) y h =
    let parts = and_parts (test x) (list_all test (xs ++ y ∷ [])) h in
    let rest = all_parts test xs y parts.1 in
    (and_from (test x) (list_all test xs) parts.0 rest.0, rest.1)

-- it may stand before the functions
abbrev is_early : Stand → Bool
is_early t = nat_le (rank (part_at t)) 8

-- a variable that stands in no function is before the first OpFunction, and so is all that stands before it
outside_before : (p : Inst → Bool) (sets : List (ℕ × Bool)) (position : Position) (before : List Stand) (insts : List Inst) (s : Stand) → order_breaches_behind before (stands sets position insts) ≡ []
    → find (λ (x : Stand). p x.inst) (stands sets position insts) ≡ Some s → s.inst.op ≡ 59 → in_function s.position.stage ≡ false → Contains (before_functions insts) s.inst × (list_all is_early before ≡ true)
unfolding before_functions order_breaches_behind
outside_before p sets position before [] s kept h op aside = absurd (cc)
outside_before p sets position before (x ∷ is) s kept h op aside =
    by_test (p x) h (breach_none (may_stand before (stand_at sets position x)) (order_breach x) _ kept)
    (λ more g. outside_before p sets (position_after position (class_of sets x) x) (before ++ stand_at sets position x ∷ []) is s more g op aside)
  where
    own : stand_at sets position x ≡ s → may_stand before (stand_at sets position x) ≡ true → Contains (if x.op == 54 then [] else x ∷ before_functions is) s.inst × (list_all is_early before ≡ true)
    own same may =
        let variable : x.op ≡ 59 = ap (λ (t : Stand). t.inst.op) same ∙ op in
        let outside_it : in_function position.stage ≡ false = ap (λ (t : Stand). in_function t.position.stage) same ∙ aside in
        let follows = (and_parts (fits_stage position.stage (part_at (stand_at sets position x))) _ may).1 in
        let as_value : list_all (λ (t : Stand). may_follow position.stage (part_by 59) (rank (part_at t))) before ≡ true
        = subst (λ q. list_all (λ (t : Stand). may_follow position.stage q (rank (part_at t))) before ≡ true) (variable_part sets x variable) follows in
        let early : list_all is_early before ≡ true = subst (λ (b : Bool). list_all (λ (t : Stand). b || nat_le (rank (part_at t)) 8) before ≡ true) outside_it as_value in
        let other : (x.op == 54) ≡ false = rw variable refl in
        (rw other (0, omega arith, ap (λ (t : Stand). t.inst) same), early)

    by_op : (b : Bool) → (x.op == 54) ≡ b → is_early (stand_at sets position x) ≡ true → Contains (before_functions is) s.inst → Contains (if b then [] else x ∷ before_functions is) s.inst
    by_op true e early there =
        let late : is_early (stand_at sets position x) ≡ false = ap (λ (n : ℕ). nat_le n 8) (function_rank sets x (eqb-true x.op 54 e)) in
        absurd (both_ways (is_early (stand_at sets position x)) late early)
    by_op false e early there =
        let lt : there.0 < length (before_functions is) = there.1 in
        (suc there.0, omega arith, there.2)

    by_test : (b : Bool) → cond b (Some (stand_at sets position x)) (find (λ (y : Stand). p y.inst) (stands sets (position_after position (class_of sets x) x) is)) ≡ Some s
        → (may_stand before (stand_at sets position x) ≡ true) × (order_breaches_behind (before ++ stand_at sets position x ∷ []) (stands sets (position_after position (class_of sets x) x) is) ≡ [])
        → (order_breaches_behind (before ++ stand_at sets position x ∷ []) (stands sets (position_after position (class_of sets x) x) is) ≡ []
        → find (λ (y : Stand). p y.inst) (stands sets (position_after position (class_of sets x) x) is) ≡ Some s
        → Contains (before_functions is) s.inst × (list_all is_early (before ++ stand_at sets position x ∷ []) ≡ true)) → Contains (if x.op == 54 then [] else x ∷ before_functions is) s.inst × (list_all is_early before ≡ true)
    by_test true g parts later = own (let same : stand_at sets position x ≡ s = cc in same) parts.0
    by_test false g parts later =
        let rest = later parts.1 g in
        let early = all_parts is_early before (stand_at sets position x) rest.1 in
        (by_op (x.op == 54) refl early.1 rest.0, early.0)

-- ---- what ids stand for

abbrev is_module : Meaning → Bool
is_module TypeDefinition = false
is_module Constant = false
is_module (Undefined ty) = false
is_module ModuleVariable = true
is_module (Variable function) = false
is_module (Register function) = false
is_module (Label function) = false
is_module Begun = false
is_module Other = false

abbrev is_inner : Meaning → Bool
is_inner TypeDefinition = false
is_inner Constant = false
is_inner (Undefined ty) = false
is_inner ModuleVariable = false
is_inner (Variable function) = true
is_inner (Register function) = false
is_inner (Label function) = false
is_inner Begun = false
is_inner Other = false

module_outside : (s : Stand) → meaning_at s ≡ ModuleVariable → in_function s.position.stage ≡ false
module_outside s is = by_place (in_function s.position.stage) refl is
  where
    by_place : (b : Bool) → in_function s.position.stage ≡ b → (if b then unwrap_or (reads s.inst.op (inside_meanings s.position.function)) (Register s.position.function) else unwrap_or (reads s.inst.op (outside_meanings s.inst.ty)) Other) ≡ ModuleVariable
        → b ≡ false
    by_place false e g = refl
    by_place true e g =
        let op = module_opcode s is in
        let none : s.inst.op ≡ 0 = key_unless is_module 0 s.inst.op (inside_meanings s.position.function) ModuleVariable (Register s.position.function) refl refl g refl in
        absurd (omega arith)

local_inside : (s : Stand) (function : ℕ) → meaning_at s ≡ Variable function → in_function s.position.stage ≡ true
local_inside s function is = by_place (in_function s.position.stage) refl is
  where
    by_place : (b : Bool) → in_function s.position.stage ≡ b → (if b then unwrap_or (reads s.inst.op (inside_meanings s.position.function)) (Register s.position.function) else unwrap_or (reads s.inst.op (outside_meanings s.inst.ty)) Other) ≡ Variable function
        → b ≡ true
    by_place true e g = refl
    by_place false e g =
        let op = local_opcode s function is in
        let none : s.inst.op ≡ 0 = key_unless is_inner 0 s.inst.op (outside_meanings s.inst.ty) (Variable function) Other refl refl g refl in
        absurd (omega arith)

-- the OpVariable that an id is the result of
pub record IsVariableAt (a : Accepted) (id : ℕ) (among : List Inst) : Type 0 where
  pub inst : Inst
  pub defines : defining a.insts id ≡ Some inst
  pub op : inst.op ≡ 59
  pub there : Contains among inst

sections_kept : (a : Accepted) → IsAccepted a → order_breaches a.insts ≡ []
unfolding sections_of
sections_kept a is = by_breaches (order_breaches a.insts) (accepted_passes a is.name is.over is.is).sections
  where
    by_breaches : (rs : List Refusal) → unless_refused nothing rs ≡ Ok nothing → rs ≡ []
    by_breaches [] h = refl
    by_breaches (r ∷ rs) h = absurd (cc)

module _ (a : Accepted) (is : IsAccepted a) (id : ℕ) where
  pub module_meant : meaning_of a.insts id ≡ Some ModuleVariable → IsVariableAt a id (before_functions a.insts)
  unfolding stand_of
  module_meant h = by_id (is_id id) (λ s. stand_is s) h
    where
      stand_is : (s : Stand) → stand_of a.insts id ≡ Some s → defining a.insts id ≡ Some s.inst
      stand_is s e = sym (stand_defines a.insts id) ∙ ap (option_map (λ (t : Stand). t.inst)) e

      by_stand : (o : Option Stand) → find (λ (s : Stand). has_result id s.inst) (stands_of a.insts) ≡ o → ((s : Stand) → o ≡ Some s → defining a.insts id ≡ Some s.inst) → option_map meaning_at o ≡ Some ModuleVariable
          → IsVariableAt a id (before_functions a.insts)
      by_stand None e own g = absurd (cc)
      by_stand (Some s) e own g =
          let meant : meaning_at s ≡ ModuleVariable = cc in
          let op = module_opcode s meant in
          let found = outside_before (has_result id) (sets_of a.insts) outside [] a.insts s (sections_kept a is) e op (module_outside s meant) in
          record { inst = s.inst; defines = own s refl; op = op; there = found.0 }

      by_id : (b : Bool) → ((s : Stand) → (if b then find (λ (s : Stand). has_result id s.inst) (stands_of a.insts) else None) ≡ Some s → defining a.insts id ≡ Some s.inst)
          → option_map meaning_at (if b then find (λ (s : Stand). has_result id s.inst) (stands_of a.insts) else None) ≡ Some ModuleVariable → IsVariableAt a id (before_functions a.insts)
      by_id true own g = by_stand (find (λ (s : Stand). has_result id s.inst) (stands_of a.insts)) refl own g
      by_id false own g = absurd (cc)

  pub local_meant : (function : ℕ) → meaning_of a.insts id ≡ Some (Variable function) → IsVariableAt a id (drop (length (before_functions a.insts)) a.insts)
  unfolding stand_of
  local_meant function h = by_id (is_id id) (λ s. stand_is s) h
    where
      stand_is : (s : Stand) → stand_of a.insts id ≡ Some s → defining a.insts id ≡ Some s.inst
      stand_is s e = sym (stand_defines a.insts id) ∙ ap (option_map (λ (t : Stand). t.inst)) e

      by_stand : (o : Option Stand) → find (λ (s : Stand). has_result id s.inst) (stands_of a.insts) ≡ o → ((s : Stand) → o ≡ Some s → defining a.insts id ≡ Some s.inst) → option_map meaning_at o ≡ Some (Variable function)
          → IsVariableAt a id (drop (length (before_functions a.insts)) a.insts)
      by_stand None e own g = absurd (cc)
      by_stand (Some s) e own g =
          let meant : meaning_at s ≡ Variable function = cc in
          record {
            inst = s.inst;
            defines = own s refl;
            op = local_opcode s function meant;
            there = inside_behind (has_result id) (sets_of a.insts) outside a.insts s refl e (local_inside s function meant);
          }

      by_id : (b : Bool) → ((s : Stand) → (if b then find (λ (s : Stand). has_result id s.inst) (stands_of a.insts) else None) ≡ Some s → defining a.insts id ≡ Some s.inst)
          → option_map meaning_at (if b then find (λ (s : Stand). has_result id s.inst) (stands_of a.insts) else None) ≡ Some (Variable function) → IsVariableAt a id (drop (length (before_functions a.insts)) a.insts)
      by_id true own g = by_stand (find (λ (s : Stand). has_result id s.inst) (stands_of a.insts)) refl own g
      by_id false own g = absurd (cc)
