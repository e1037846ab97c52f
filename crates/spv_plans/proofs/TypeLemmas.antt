-- The type of an instruction in a function is one of the module's types.
use Rattle.std.proofs.Common.{◌≡◌, ◌⊎◌, ◌∙◌, inl, inr, ℕ, ◌<◌, ◌≤◌, ◌==◌, ◌&&◌, ◌||◌, Bool, true, false, cond, List, [], ◌∷◌, ◌++◌, length, drop, Option, Some, None, refl, ap, subst, arith}
use Rattle.std.proofs.lemmas.Bool.{agree_below_at, and_parts, both_ways, eqb-true, ne_eqb, not-false, not-true}
use Rattle.std.proofs.lemmas.Bool.Decides.{nat_tests}
use Rattle.std.proofs.lemmas.List.Elements.{recursion_from_All}
use Rattle.std.specs.Prelude.{not}
use Rattle.std.specs.List.{All, AllByRecursion, list_all}
use Rattle.std.specs.Option.{is_some, unwrap_or}
use Rattle.spv_base.specs.Entries.{reads}
use Rattle.spv_base.specs.declared.instructions.Inst.{Inst}
use Rattle.spv_ops.specs.Module.{Decoded}
use Rattle.spv_index.specs.Classes.{class_of, sets_of}
use Rattle.spv_index.specs.Definitions.{before_functions}
use Rattle.spv_index.specs.declared.positions.Position.{Position}
use Rattle.spv_index.specs.Positions.{in_function, outside, position_after}
use Rattle.spv_types.specs.declared.forms.Form.{Form}
use Rattle.spv_types.specs.Build.{type_breaches, type_code}
use Rattle.spv_types.specs.Rules.{is_type, keeps_other, keeps_rules}
use Rattle.spv_types.specs.Types.{Types, form_of}
use Rattle.spv_types.specs.Typing.{defined_form, types_in, with_form}
use Rattle.spv_typing.specs.Rules.{rule_of as lanes_of}
use Rattle.spv_valid.specs.Below.spv_bodies.specs.declared.rules.Rule.{Rule}
use Rattle.spv_valid.specs.Below.spv_bodies.specs.declared.rules.Rule.TheVariants.{Lanes}
use Rattle.spv_valid.specs.Below.spv_bodies.specs.declared.within.Within.{Within}
use Rattle.spv_valid.specs.Below.spv_bodies.specs.Bodies.{KeepsBody, KeepsRule}
use Rattle.spv_valid.specs.Below.spv_bodies.specs.Context.{Known}
use Rattle.spv_valid.specs.Below.spv_bodies.specs.Places.{Placed, nowhere, place, placed, placed_from, within_after}
use Rattle.spv_valid.specs.Below.spv_bodies.specs.Rules.{atomic_rule, composite_rule, control_rule, memory_rule, other_rule, rule_of}
use Rattle.spv_valid.specs.Below.spv_sections.specs.declared.definitions.Definition.{Definition}
use Rattle.spv_valid.specs.Below.spv_sections.specs.declared.ids.Scope.{Scope}
use Rattle.spv_valid.specs.Below.spv_sections.specs.declared.kinds.Kind.{Kind}
use Rattle.spv_valid.specs.Below.spv_sections.specs.declared.kinds.Kind.TheVariants.{Computed}
use Rattle.spv_valid.specs.Below.spv_sections.specs.declared.kinds.Wanted.TheVariants.{DeclaredType}
use Rattle.spv_valid.specs.Below.spv_sections.specs.Definitions.{definition_at, definitions_from, definitions_of, first}
use Rattle.spv_valid.specs.Below.spv_sections.specs.Ids.{names, serves}
use Rattle.spv_valid.specs.Below.spv_sections.specs.Kinds.{fits, is_type as is_type_kind, kind_of, kinds}
use Rattle.spv_valid.specs.Below.spv_sections.proofs.Exports.{first_read}
use Rattle.spv_valid.specs.Below.spv_cfg.proofs.Exports.{all_from_test}

-- ---- the opcodes of types

-- an entry of a type is under an opcode of types
abbrev gives_type : ℕ × Kind → Bool
gives_type e = not (is_type_kind e.1) || is_type e.0

abbrev GivesType : ℕ × Kind → Type 0
GivesType e = is_type_kind e.1 ≡ true → is_type e.0 ≡ true

test_of_type : (e : ℕ × Kind) → gives_type e ≡ true → GivesType e
test_of_type e test is = by_kind (is_type_kind e.1) is test
  where
    by_kind : (b : Bool) → b ≡ true → (not b || is_type e.0) ≡ true → is_type e.0 ≡ true
    by_kind true h t = t
    by_kind false h t = absurd (cc)

key_of_type : (op : ℕ) (es : List (ℕ × Kind)) → AllByRecursion GivesType es → is_type_kind (unwrap_or (reads op es) Computed) ≡ true → is_type op ≡ true
key_of_type op [] only is = absurd (cc)
key_of_type op (e ∷ es) only is = by_key (e.0 == op) refl (key_of_type op es only.1) is
  where
    by_key : (b : Bool) → (e.0 == op) ≡ b → (is_type_kind (unwrap_or (reads op es) Computed) ≡ true → is_type op ≡ true)
        → is_type_kind (unwrap_or (cond b (Some e.1) (reads op es)) Computed) ≡ true → is_type op ≡ true
    by_key true same later here = subst (λ (n : ℕ). is_type n ≡ true) (eqb-true e.0 op same) (only.0 here)
    by_key false same later here = later here

tests_of_kinds : (local : Bool) → list_all gives_type (kinds local) ≡ true
tests_of_kinds true = refl
tests_of_kinds false = refl

opcode_of_type : (local : Bool) (op : ℕ) → is_type_kind (kind_of local op) ≡ true → is_type op ≡ true
opcode_of_type local op is = key_of_type op (kinds local) (all_from_test gives_type GivesType test_of_type (kinds local) (tests_of_kinds local)) is

type_low : (op : ℕ) → is_type op ≡ true → op < 34
type_low op h = grind (arith, nat_tests)

type_high : (op : ℕ) → is_type op ≡ true → 18 < op
type_high op h = grind (arith, nat_tests)

other_opcode : (op n : ℕ) → is_type op ≡ true → (n ≤ 18) ⊎ (34 ≤ n) → (op == n) ≡ false
other_opcode op n h (inl low) = let least : 18 < op = type_high op h in ne_eqb op n (λ same. omega arith)
other_opcode op n h (inr high) = let most : op < 34 = type_low op h in ne_eqb op n (λ same. omega arith)

-- ---- no body has an instruction that defines a type

is_lanes : Rule → Bool
is_lanes Lanes = true
is_lanes other = false

pub second_false : (p q : Bool) → p ≡ true → (p && q) ≡ false → q ≡ false
second_false true q e h = h
second_false false q e h = absurd (cc)

lanes_rule : (op : ℕ) → is_type op ≡ true → (is_lanes (rule_of op) && not (is_some (lanes_of op))) ≡ true
unfolding is_lanes memory_rule atomic_rule composite_rule control_rule other_rule lanes_of
lanes_rule op h =
    not-false (is_lanes (rule_of op) && not (is_some (lanes_of op)))
    (second_false (is_type op) (not (is_lanes (rule_of op) && not (is_some (lanes_of op)))) h
    (agree_below_at (λ n. is_type n && not (is_lanes (rule_of n) && not (is_some (lanes_of n)))) (λ _. false) 34 op refl (type_low op h)))

no_lanes : (k : Known) (p : Placed) (rule : Rule) → is_lanes rule ≡ true → is_some (lanes_of p.inst.op) ≡ false → KeepsRule k p rule → ⊥
unfolding is_lanes
no_lanes k p Lanes is none kept =
    let some : is_some (lanes_of p.inst.op) ≡ true = ap is_some kept.1 in
    both_ways (is_some (lanes_of p.inst.op)) none some
no_lanes k p other is none kept = cc

no_type_kept : (k : Known) (p : Placed) → KeepsBody k p → is_type p.inst.op ≡ false
no_type_kept k p kept = by_test (is_type p.inst.op) refl
  where
    by_test : (b : Bool) → is_type p.inst.op ≡ b → b ≡ false
    by_test true e =
        let parts = and_parts (is_lanes (rule_of p.inst.op)) (not (is_some (lanes_of p.inst.op))) (lanes_rule p.inst.op e) in
        absurd (no_lanes k p (rule_of p.inst.op) parts.0 (not-true (is_some (lanes_of p.inst.op)) parts.1) kept.1)
    by_test false e = refl

-- what is so of each placed instruction is so of each instruction
each_placed : (P : Inst → Type 0) (Q : Placed → Type 0) → ((p : Placed) → Q p → P p.inst) → (w : Within) (is : List Inst) → AllByRecursion Q (placed_from w is) → AllByRecursion P is
each_placed P Q gives w [] h = tt
each_placed P Q gives w (i ∷ is) h = (gives (place i w is) h.0, each_placed P Q gives (within_after w i) is h.1)

-- ---- before the functions each of them defines one

abbrev pub DefinesType : List Inst → Inst → Type 0
DefinesType all i = is_type i.op ≡ true → is_some (defined_form all i) ≡ true

defines_type : (all : List Inst) (ts : Types) (i : Inst) → keeps_rules all ts i ≡ true → is_type i.op ≡ true → is_some (defined_form all i) ≡ true
unfolding keeps_rules
defines_type all ts i h is = by_form (defined_form all i) h
  where
    by_form : (o : Option Form) → keeps_other all ts i o ≡ true → is_some o ≡ true
    by_form None kept =
        let variable : (i.op == 59) ≡ false = other_opcode i.op 59 is (inr (omega arith)) in
        let undefined : (i.op == 1) ≡ false = other_opcode i.op 1 is (inl (omega arith)) in
        let none : not (is_type i.op) ≡ true = rw (variable, undefined) at kept in
        absurd (both_ways (is_type i.op) (not-true (is_type i.op) none) is)
    by_form (Some f) kept = refl

pub types_defined : (all before is : List Inst) → type_breaches all before is ≡ [] → AllByRecursion (DefinesType all) is
unfolding type_breaches
types_defined all before [] h = tt
types_defined all before (i ∷ is) h =
    let parts = by_rule (keeps_rules all (types_in all before) i) h in
    (defines_type all (types_in all before) i parts.0, types_defined all (before ++ i ∷ []) is parts.1)
  where
    by_rule : (b : Bool) → cond b [] (record { code = type_code; word = i.word } ∷ []) ++ type_breaches all (before ++ i ∷ []) is ≡ [] → (b ≡ true) × (type_breaches all (before ++ i ∷ []) is ≡ [])
    by_rule true e = (refl, e)
    by_rule false e = absurd (cc)

-- ---- so an id that stands for a type has a form

abbrev pub NoType : Inst → Type 0
NoType i = is_type i.op ≡ false

-- what an id stands for, where it is a type
defined_at : (position : Position) (i : Inst) (d : Definition) → definition_at position i ≡ d → is_type_kind d.kind ≡ true → is_type i.op ≡ true
defined_at position i d same is =
    opcode_of_type (in_function position.stage) i.op (ap (λ (x : Definition). is_type_kind x.kind) same ∙ is)

none_behind : (sets : List (ℕ × Bool)) (position : Position) (is : List Inst) (ty : ℕ) (d : Definition) → AllByRecursion NoType is → reads ty (definitions_from sets position is) ≡ Some d
    → is_type_kind d.kind ≡ true → ⊥
none_behind sets position [] ty d none found is_kind = cc
none_behind sets position (i ∷ is) ty d none found is_kind =
    by_test (i.id == ty) found (λ e. none_behind sets (position_after position (class_of sets i) i) is ty d none.1 e is_kind)
  where
    by_test : (b : Bool) → cond b (Some (definition_at position i)) (reads ty (definitions_from sets (position_after position (class_of sets i) i) is)) ≡ Some d
        → (reads ty (definitions_from sets (position_after position (class_of sets i) i) is) ≡ Some d → ⊥) → ⊥
    by_test true e behind =
        let same : definition_at position i ≡ d = cc in
        both_ways (is_type i.op) none.0 (defined_at position i d same is_kind)
    by_test false e behind = behind e

form_added : (ts : Types) (id ty : ℕ) (o : Option Form) → is_some (form_of ts ty) ≡ true → is_some (form_of (with_form [] id o ++ ts) ty) ≡ true
form_added ts id ty None h = h
form_added ts id ty (Some f) h = by_test (id == ty)
  where
    by_test : (b : Bool) → is_some (cond b (Some f) (form_of ts ty)) ≡ true
    by_test true = refl
    by_test false = h

form_own : (ts : Types) (id ty : ℕ) (o : Option Form) → (id == ty) ≡ true → is_some o ≡ true → is_some (form_of (with_form [] id o ++ ts) ty) ≡ true
form_own ts id ty None same h = absurd (cc)
form_own ts id ty (Some f) same h = rw same refl

pub form_found : (all : List Inst) (sets : List (ℕ × Bool)) (position : Position) (front back : List Inst) (ty : ℕ) (d : Definition) → AllByRecursion (DefinesType all) front → AllByRecursion NoType back
    → reads ty (definitions_from sets position (front ++ back)) ≡ Some d → is_type_kind d.kind ≡ true → is_some (form_of (types_in all front) ty) ≡ true
unfolding types_in
form_found all sets position [] back ty d defines none found is_kind = absurd (none_behind sets position back ty d none found is_kind)
form_found all sets position (i ∷ front) back ty d defines none found is_kind =
    by_test (i.id == ty) refl found (λ e. form_found all sets (position_after position (class_of sets i) i) front back ty d defines.1 none e is_kind)
  where
    by_test : (b : Bool) → (i.id == ty) ≡ b → cond b (Some (definition_at position i)) (reads ty (definitions_from sets (position_after position (class_of sets i) i) (front ++ back))) ≡ Some d
        → (reads ty (definitions_from sets (position_after position (class_of sets i) i) (front ++ back)) ≡ Some d → is_some (form_of (types_in all front) ty) ≡ true)
        → is_some (form_of (with_form [] i.id (defined_form all i) ++ types_in all front) ty) ≡ true
    by_test true own e behind =
        let same : definition_at position i ≡ d = cc in
        form_own (types_in all front) i.id ty (defined_form all i) own (defines.0 (defined_at position i d same is_kind))
    by_test false own e behind = form_added (types_in all front) i.id ty (defined_form all i) (behind e)

-- ---- a result type stands for a type

served : (scope : Scope) (o : Option Definition) → serves scope DeclaredType o ≡ true → (d : Definition) × (o ≡ Some d) × (is_type_kind d.kind ≡ true)
served scope None h = absurd (cc)
served scope (Some d) h = (d, refl, (and_parts (fits DeclaredType d.kind) _ h).0)

pub named_type : (decoded : Decoded) (scope : Scope) (ty : ℕ) → names decoded scope DeclaredType ty ≡ true
    → (d : Definition) × (reads ty (definitions_from (sets_of decoded.insts) outside decoded.insts) ≡ Some d) × (is_type_kind d.kind ≡ true)
unfolding definitions_of
named_type decoded scope ty h =
    let found = served scope (first decoded ty) h in
    (found.0, first_read decoded ty found.0 found.1, found.2)

-- ---- the instructions from the first function on

drop_front : (xs ys : List Inst) → drop (length xs) (xs ++ ys) ≡ ys
drop_front [] ys = refl
drop_front (x ∷ xs) ys = drop_front xs ys

-- what is so of each instruction that keeps its rule is so from the first function on
pub each_behind : (k : Known) (P : Inst → Type 0) → ((p : Placed) → KeepsBody k p → P p.inst) → (insts : List Inst) → All (KeepsBody k) (placed insts)
    → AllByRecursion P (drop (length (before_functions insts)) insts)
each_behind k P gives insts kept =
    each_placed P (KeepsBody k) gives nowhere (drop (length (before_functions insts)) insts) (recursion_from_All (KeepsBody k) (placed insts) kept)

pub no_types_behind : (k : Known) (insts tail : List Inst) → insts ≡ before_functions insts ++ tail → All (KeepsBody k) (placed insts) → AllByRecursion NoType tail
no_types_behind k insts tail whole kept =
    let front : List Inst = before_functions insts in
    let rest : drop (length front) insts ≡ tail = ap (drop (length front)) whole ∙ drop_front front tail in
    subst (AllByRecursion NoType) rest (each_behind k NoType (no_type_kept k) insts kept)
