-- What the meaning of an id tells of the instruction that defines it.
use Rattle.std.proofs.Common.{◌≡◌, ◌⊎◌, ◌∙◌, inl, inr, ℕ, ◌==◌, ◌&&◌, ◌||◌, Bool, true, false, List, [], ◌∷◌, Option, Some, None, refl, sym, ap, arith}
use Rattle.std.proofs.lemmas.Bool.{agree_below_at, and_parts, both_ways, eqb-true, not-false, not-true, or_cases}
use Rattle.std.specs.Prelude.{find, if◌then◌else◌, not, unwrap_or}
use Rattle.std.specs.List.{list_all}
use Rattle.std.specs.Option.{option_map}
use Rattle.spv_base.specs.Entries.{reads}
use Rattle.spv_index.specs.declared.classes.Class.{Class}
use Rattle.spv_index.specs.declared.classes.Class.TheVariants.{Function as Beginning, Parameter, End, Label as Block, Line, Phi, Variable as Local, Terminator, Passed, Executable}
use Rattle.spv_index.specs.Classes.{class_of, classes, is_debug, is_local, sets_of}
use Rattle.spv_index.specs.Definitions.{defining, has_result, is_id}
use Rattle.spv_index.specs.Positions.{Stand, in_function, outside, position_after, stand_of, stands, stands_of}
use Rattle.spv_index.specs.declared.positions.Position.{Position}
use Rattle.spv_base.specs.declared.instructions.Inst.{Inst}
use Rattle.spv_types.specs.Constants.{is_constant}
use Rattle.spv_valid.specs.Meanings.{inside_meanings, meaning_at, outside_meanings}
use Rattle.spv_valid.specs.declared.meanings.Meaning.{Meaning}
use Rattle.spv_valid.specs.declared.meanings.Meaning.TheVariants.{TypeDefinition, Constant, Undefined, ModuleVariable, Variable, Register, Label, Function, Other}
use Rattle.spv_valid.specs.Below.spv_sections.proofs.Exports.{constant_low}
use Rattle.spv_plans.proofs.Exports.{second_false}

-- ---- instructions and where they stand

defines_from : (p : Inst → Bool) (sets : List (ℕ × Bool)) (position : Position) (insts : List Inst)
    → option_map (λ (s : Stand). s.inst) (find (λ (s : Stand). p s.inst) (stands sets position insts)) ≡ find p insts
defines_from p sets position [] = refl
defines_from p sets position (i ∷ insts) = by_test (p i) (defines_from p sets (position_after position (class_of sets i) i) insts)
  where
    by_test : (b : Bool) → option_map (λ (s : Stand). s.inst) (find (λ (s : Stand). p s.inst) (stands sets (position_after position (class_of sets i) i) insts)) ≡ find p insts
        → option_map (λ (s : Stand). s.inst) (if b then Some (record { position = position; class = class_of sets i; inst = i }) else find (λ (s : Stand). p s.inst) (stands sets (position_after position (class_of sets i) i) insts))
        ≡ (if b then Some i else find p insts)
    by_test true behind = refl
    by_test false behind = behind

-- the instruction of the stand of an id is the one that defines it
pub stand_defines : (insts : List Inst) (id : ℕ) → option_map (λ (s : Stand). s.inst) (stand_of insts id) ≡ defining insts id
unfolding stand_of defining
stand_defines insts id = by_id (is_id id)
  where
    by_id : (b : Bool) → option_map (λ (s : Stand). s.inst) (if b then find (λ (s : Stand). has_result id s.inst) (stands_of insts) else None) ≡ (if b then find (has_result id) insts else None)
    by_id true = defines_from (has_result id) (sets_of insts) outside insts
    by_id false = refl

-- ---- tables by opcode

-- each entry of a table whose value passes a test stands under one key
abbrev pub all_under : {X : Type 0} → (X → Bool) → ℕ → List (ℕ × X) → Bool
all_under {X} passes n es = list_all (λ (e : ℕ × X). not (passes e.1) || (e.0 == n)) es

-- so what passes it is found under this key alone
pub key_of : {X : Type 0} (passes : X → Bool) (n op : ℕ) (es : List (ℕ × X)) (x : X) → all_under passes n es ≡ true → reads op es ≡ Some x → passes x ≡ true → op ≡ n
key_of passes n op [] x all found h = absurd (cc)
key_of {X} passes n op (e ∷ es) x all found h = by_key (e.0 == op) refl found (λ there. key_of passes n op es x tests.1 there h)
  where
    tests : ((not (passes e.1) || (e.0 == n)) ≡ true) × (all_under passes n es ≡ true)
    tests = and_parts (not (passes e.1) || (e.0 == n)) (all_under passes n es) all

    by_either : passes e.1 ≡ true → (not (passes e.1) ≡ true) ⊎ ((e.0 == n) ≡ true) → e.0 ≡ n
    by_either some (inl none) = absurd (both_ways (passes e.1) (not-true (passes e.1) none) some)
    by_either some (inr own) = eqb-true e.0 n own

    by_key : (b : Bool) → (e.0 == op) ≡ b → (if b then Some e.1 else reads op es) ≡ Some x → (reads op es ≡ Some x → op ≡ n) → op ≡ n
    by_key true same there behind =
        let is : e.1 ≡ x = cc in
        sym (eqb-true e.0 op same) ∙ by_either (ap passes is ∙ h) (or_cases (not (passes e.1)) (e.0 == n) tests.0)
    by_key false other there behind = behind there

-- the same where another value, which fails the test, stands for what is not found
pub key_unless : {X : Type 0} (passes : X → Bool) (n op : ℕ) (es : List (ℕ × X)) (x d : X) → all_under passes n es ≡ true → passes d ≡ false → unwrap_or (reads op es) d ≡ x → passes x ≡ true → op ≡ n
key_unless {X} passes n op es x d all none is h = by_read (reads op es) refl is
  where
    by_read : (o : Option X) → reads op es ≡ o → unwrap_or o d ≡ x → op ≡ n
    by_read None e same = absurd (both_ways (passes x) (sym (ap passes same) ∙ none) h)
    by_read (Some y) e same = key_of passes n op es x all (e ∙ ap Some same) h

-- ---- by the meaning

abbrev pub is_undefined : Meaning → Bool
is_undefined TypeDefinition = false
is_undefined Constant = false
is_undefined (Undefined ty) = true
is_undefined ModuleVariable = false
is_undefined (Variable function) = false
is_undefined (Register function) = false
is_undefined (Label function) = false
is_undefined Function = false
is_undefined Other = false

abbrev pub is_variable : Meaning → Bool
is_variable TypeDefinition = false
is_variable Constant = false
is_variable (Undefined ty) = false
is_variable ModuleVariable = true
is_variable (Variable function) = true
is_variable (Register function) = false
is_variable (Label function) = false
is_variable Function = false
is_variable Other = false

-- where each entry stands under one opcode in the tables of meanings
pub opcode_of : (passes : Meaning → Bool) (n : ℕ) → ((ty : ℕ) → all_under passes n (outside_meanings ty) ≡ true) → ((function : ℕ) → all_under passes n (inside_meanings function) ≡ true)
    → passes Other ≡ false → ((function : ℕ) → passes (Register function) ≡ false) → (s : Stand) (m : Meaning) → meaning_at s ≡ m → passes m ≡ true → s.inst.op ≡ n
opcode_of passes n outside inside other register s m is h = by_place (in_function s.position.stage) is
  where
    by_place : (b : Bool) → (if b then unwrap_or (reads s.inst.op (inside_meanings s.position.function)) (Register s.position.function) else unwrap_or (reads s.inst.op (outside_meanings s.inst.ty)) Other) ≡ m → s.inst.op ≡ n
    by_place true e = key_unless passes n s.inst.op (inside_meanings s.position.function) m (Register s.position.function) (inside s.position.function) (register s.position.function) e h
    by_place false e = key_unless passes n s.inst.op (outside_meanings s.inst.ty) m Other (outside s.inst.ty) other e h

pub undefined_opcode : (s : Stand) (ty : ℕ) → meaning_at s ≡ Undefined ty → s.inst.op ≡ 1
undefined_opcode s ty is = opcode_of is_undefined 1 (λ ty. refl) (λ function. refl) refl (λ function. refl) s (Undefined ty) is refl

pub local_opcode : (s : Stand) (function : ℕ) → meaning_at s ≡ Variable function → s.inst.op ≡ 59
local_opcode s function is = opcode_of is_variable 59 (λ ty. refl) (λ function. refl) refl (λ function. refl) s (Variable function) is refl

pub module_opcode : (s : Stand) → meaning_at s ≡ ModuleVariable → s.inst.op ≡ 59
module_opcode s is = opcode_of is_variable 59 (λ ty. refl) (λ function. refl) refl (λ function. refl) s ModuleVariable is refl

-- the type of an undefined value is that of its instruction
pub undefined_type : (s : Stand) (ty : ℕ) → meaning_at s ≡ Undefined ty → s.inst.ty ≡ ty
undefined_type s ty is = by_place (in_function s.position.stage) s.inst.op (undefined_opcode s ty is) is
  where
    by_place : (b : Bool) (op : ℕ) → op ≡ 1 → (if b then unwrap_or (reads op (inside_meanings s.position.function)) (Register s.position.function) else unwrap_or (reads op (outside_meanings s.inst.ty)) Other) ≡ Undefined ty
        → s.inst.ty ≡ ty
    by_place true op one e = let clash : Register s.position.function ≡ Undefined ty = rw one at e in absurd (cc)
    by_place false op one e = let same : Undefined s.inst.ty ≡ Undefined ty = rw one at e in cc

-- ---- constants

abbrev is_constant_meaning : Option Meaning → Bool
is_constant_meaning None = false
is_constant_meaning (Some TypeDefinition) = false
is_constant_meaning (Some Constant) = true
is_constant_meaning (Some (Undefined ty)) = false
is_constant_meaning (Some ModuleVariable) = false
is_constant_meaning (Some (Variable function)) = false
is_constant_meaning (Some (Register function)) = false
is_constant_meaning (Some (Label function)) = false
is_constant_meaning (Some Function) = false
is_constant_meaning (Some Other) = false

constant_is : (o : Option Meaning) → is_constant_meaning o ≡ true → o ≡ Some Constant
constant_is o h = grind arith

-- the meaning of an opcode of constants, outside functions
pub constant_opcode : (op ty : ℕ) → is_constant op ≡ true → reads op (outside_meanings ty) ≡ Some Constant
constant_opcode op ty h =
    constant_is (reads op (outside_meanings ty))
    (not-false (is_constant_meaning (reads op (outside_meanings ty)))
    (second_false (is_constant op) (not (is_constant_meaning (reads op (outside_meanings ty)))) h
    (agree_below_at (λ n. is_constant n && not (is_constant_meaning (reads n (outside_meanings ty)))) (λ _. false) 53 op refl (constant_low op h))))

-- ---- the instructions that begin functions

abbrev is_beginning : Class → Bool
is_beginning Beginning = true
is_beginning Parameter = false
is_beginning End = false
is_beginning Block = false
is_beginning Line = false
is_beginning Phi = false
is_beginning Local = false
is_beginning Terminator = false
is_beginning Passed = false
is_beginning Executable = false

beginnings : (debug local : Bool) → all_under is_beginning 54 (classes debug local) ≡ true
beginnings true true = refl
beginnings true false = refl
beginnings false true = refl
beginnings false false = refl

pub beginning_opcode : (sets : List (ℕ × Bool)) (i : Inst) → class_of sets i ≡ Beginning → i.op ≡ 54
beginning_opcode sets i is =
    key_unless is_beginning 54 i.op (classes (is_debug sets i) (is_local i)) Beginning Executable (beginnings (is_debug sets i) (is_local i)) refl is refl
