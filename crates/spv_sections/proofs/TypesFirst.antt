-- The types of constants come before them, where ids are in order.
use Rattle.std.proofs.Common.{◌≡◌, ◌≢◌, ◌⊎◌, inl, inr, unwrap_or, ◌∙◌, ℕ, suc, ◌<◌, ◌≤◌, ◌==◌, ◌&&◌, Bool, true, false, cond, List, [], ◌∷◌, ◌++◌, map, Option, Some, None, refl, sym, ap, append_assoc, arith}
use Rattle.std.proofs.lemmas.Bool.{agree_below_at, and_parts, both_ways, eqb-true, ltb-true, not-false, not-true}
use Rattle.std.proofs.lemmas.Bool.Decides.{nat_tests}
use Rattle.std.proofs.lemmas.Grind.{common_steps}
use Rattle.std.proofs.lemmas.List.Elements.{Contains-append_right}
use Rattle.std.specs.Prelude.{not, ◌||◌}
use Rattle.std.specs.List.{AllByRecursion, Contains}
use Rattle.spv_base.proofs.Exports.{second_false}
use Rattle.spv_base.specs.Entries.{reads}
use Rattle.spv_base.specs.Order.{Ascend}
use Rattle.spv_base.specs.declared.instructions.Inst.{Inst}
use Rattle.spv_ops.specs.Module.{Decoded}
use Rattle.spv_index.specs.declared.classes.Class.{Class}
use Rattle.spv_index.specs.declared.classes.Class.TheVariants.{Function as Beginning, Parameter, End, Label, Line as Passing, Phi, Variable, Terminator, Passed, Executable}
use Rattle.spv_index.specs.declared.positions.Stage.TheVariants.{Outside}
use Rattle.spv_index.specs.declared.positions.Position.{Position}
use Rattle.spv_index.specs.Classes.{class_of, sets_of}
use Rattle.spv_index.specs.Positions.{Stand, in_function, outside, position_after, stands}
use Rattle.spv_ops.specs.Grammar.{row_of}
use Rattle.spv_ops.specs.Opcodes.{table}
use Rattle.spv_ops.specs.declared.grammar.Head.{Head}
use Rattle.spv_ops.specs.declared.grammar.Head.TheVariants.{Plain, Result, TypedResult}
use Rattle.spv_ops.specs.declared.op.TheConstants.{FUNCTION}
use Rattle.spv_types.specs.Constants.{is_constant}
use Rattle.spv_types.specs.Laws.{TypesComeFirst}
use Rattle.spv_index.specs.Definitions.{before_functions}
use Rattle.spv_sections.specs.declared.definitions.Definition.{Definition}
use Rattle.spv_sections.specs.declared.ids.Scope.{Scope}
use Rattle.spv_sections.specs.declared.kinds.Wanted.{Wanted}
use Rattle.spv_sections.specs.declared.kinds.Wanted.TheVariants.{DeclaredType}
use Rattle.spv_sections.specs.Kinds.{fits}
use Rattle.spv_sections.specs.Definitions.{definition_at, definitions_from, definitions_of, first, is_id, sees}
use Rattle.spv_sections.specs.Ids.{has_result, has_type, head_of, is_early, is_type_id, names, names_later, scope_of, serves}
use Rattle.spv_sections.specs.Laws.{IsInOrder}

-- ---- the opcodes of constants

pub constant_low : (op : ℕ) → is_constant op ≡ true → op < 53
constant_low op h = grind (arith, nat_tests)

pub constant_has_type : (op : ℕ) → is_constant op ≡ true → has_type (head_of op) ≡ true
unfolding head_of row_of table
constant_has_type op h =
    not-false (has_type (head_of op))
    (second_false (is_constant op) (not (has_type (head_of op))) h (agree_below_at (λ n. is_constant n && not (has_type (head_of n))) (λ _. false) 53 op refl (constant_low op h)))

pub typed_has_result : (h : Head) → has_type h ≡ true → has_result h ≡ true
typed_has_result Plain e = absurd (cc)
typed_has_result Result e = refl
typed_has_result TypedResult e = refl

constant_names_before : (op : ℕ) → is_constant op ≡ true → names_later op ≡ false
constant_names_before op h =
    second_false (is_constant op) (names_later op) h (agree_below_at (λ n. is_constant n && names_later n) (λ _. false) 53 op refl (constant_low op h))

-- ---- what is defined at a lower word is defined before

late : (sets : List (ℕ × Bool)) (position : Position) (from : ℕ) (insts : List Inst) (id : ℕ) (d : Definition) → Ascend from insts
    → reads id (definitions_from sets position insts) ≡ Some d → from ≤ d.word
late sets position from [] id d ascend e = absurd (cc)
late sets position from (i ∷ is) id d (low, rest) e = by_test (i.id == id) (late sets (position_after position (class_of sets i) i) (suc i.word) is id d rest) e
  where
    by_test : (b : Bool) → (reads id (definitions_from sets (position_after position (class_of sets i) i) is) ≡ Some d → suc i.word ≤ d.word)
        → cond b (Some (definition_at position i)) (reads id (definitions_from sets (position_after position (class_of sets i) i) is)) ≡ Some d → from ≤ d.word
    by_test true behind e =
        let this : definition_at position i ≡ d = cc in
        let at : i.word ≡ d.word = ap (λ (x : Definition). x.word) this in
        omega arith
    by_test false behind e = let lower : suc i.word ≤ d.word = behind e in omega arith

among : (sets : List (ℕ × Bool)) (position : Position) (from : ℕ) (front back : List Inst) (id : ℕ) (d : Definition) → Ascend from back
    → reads id (definitions_from sets position (front ++ back)) ≡ Some d → d.word < from → Contains (map (λ (j : Inst). j.id) front) id
among sets position from [] back id d ascend is lt = let le : from ≤ d.word = late sets position from back id d ascend is in absurd (omega arith)
among sets position from (j ∷ js) back id d ascend is lt =
    by_test (j.id == id) refl (λ e. among sets (position_after position (class_of sets j) j) from js back id d ascend e lt) is
  where
    by_test : (b : Bool) → (j.id == id) ≡ b
        → (reads id (definitions_from sets (position_after position (class_of sets j) j) (js ++ back)) ≡ Some d → Contains (map (λ (k : Inst). k.id) js) id)
        → cond b (Some (definition_at position j)) (reads id (definitions_from sets (position_after position (class_of sets j) j) (js ++ back))) ≡ Some d
        → Contains (map (λ (k : Inst). k.id) (j ∷ js)) id
    by_test true t behind e = (0, omega arith, eqb-true j.id id t)
    by_test false t behind e = Contains-append_right (j.id ∷ []) (map (λ (k : Inst). k.id) js) id (behind e)

-- ---- the type of a constant

served : (scope : Scope) (wanted : Wanted) (o : Option Definition) → serves scope wanted o ≡ true → (d : Definition) × (o ≡ Some d) × (is_early scope.before d.word ≡ true)
served scope wanted None h = absurd (cc)
served scope wanted (Some d) h =
    let parts = and_parts (fits wanted d.kind) (sees scope.home d.home && is_early scope.before d.word) h in
    (d, refl, (and_parts (sees scope.home d.home) (is_early scope.before d.word) parts.1).1)

has_type_id : (decoded : Decoded) (i : Inst) → is_type_id decoded i ≡ true → has_type (head_of i.op) ≡ true → i.ty ≢ 0
has_type_id decoded i h typed none = both_ways (has_type (head_of i.op)) (not-true (has_type (head_of i.op)) (rw none at h)) typed

pub first_read : (decoded : Decoded) (id : ℕ) (d : Definition) → first decoded id ≡ Some d → reads id (definitions_of decoded.insts) ≡ Some d
unfolding first
first_read decoded id d is = by_test (is_id decoded.bound id) is
  where
    by_test : (b : Bool) → cond b (reads id (definitions_of decoded.insts)) None ≡ Some d → reads id (definitions_of decoded.insts) ≡ Some d
    by_test true e = e
    by_test false e = absurd (cc)

type_named : (decoded : Decoded) (scope : Scope) (ty : ℕ) → ty ≢ 0 → (ty ≡ 0) ⊎ (names decoded scope DeclaredType ty ≡ true)
    → serves scope DeclaredType (first decoded ty) ≡ true
type_named decoded scope ty some (inl none) = absurd (some none)
type_named decoded scope ty some (inr named) = named

early_before : (later : Bool) (word other : ℕ) → later ≡ false → is_early (cond later None (Some word)) other ≡ true → other < word
early_before true word other none h = absurd (cc)
early_before false word other none h = ltb-true other word h

-- ---- before the functions

abbrev is_beginning : Class → Bool
is_beginning Beginning = true
is_beginning Parameter = false
is_beginning End = false
is_beginning Label = false
is_beginning Passing = false
is_beginning Phi = false
is_beginning Variable = false
is_beginning Terminator = false
is_beginning Passed = false
is_beginning Executable = false

stays_outside : (c : Class) (position : Position) (i : Inst) → position.stage ≡ Outside → is_beginning c ≡ false → (position_after position c i).stage ≡ Outside
stays_outside Beginning position i out apart = absurd (cc)
stays_outside Parameter position i out apart = out
stays_outside End position i out apart = refl
stays_outside Label position i out apart = rw out refl
stays_outside Passing position i out apart = out
stays_outside Phi position i out apart = out
stays_outside Variable position i out apart = rw out refl
stays_outside Terminator position i out apart = rw out refl
stays_outside Passed position i out apart = rw out refl
stays_outside Executable position i out apart = rw out refl

one_other : (op n : ℕ) (c : Class) (o : Option Class) → is_beginning c ≡ false → is_beginning (unwrap_or o Executable) ≡ false
    → is_beginning (unwrap_or (cond (n == op) (Some c) o) Executable) ≡ false
one_other op n c o here behind = by_test (n == op)
  where
    by_test : (b : Bool) → is_beginning (unwrap_or (cond b (Some c) o) Executable) ≡ false
    by_test true = here
    by_test false = behind

other_way : (a b : ℕ) → (a == b) ≡ false → (b == a) ≡ false
other_way a b apart = grind (arith, common_steps)

no_function : (op : ℕ) (o : Option Class) → (op == 54) ≡ false → is_beginning (unwrap_or o Executable) ≡ false
    → is_beginning (unwrap_or (cond (54 == op) (Some Beginning) o) Executable) ≡ false
no_function op o other behind = rw (other_way op 54 other) behind

either : (b : Bool) (c d : Class) → is_beginning c ≡ false → is_beginning d ≡ false → is_beginning (cond b c d) ≡ false
either true c d one other = one
either false c d one other = other

begins_none : (sets : List (ℕ × Bool)) (i : Inst) → (i.op == 54) ≡ false → is_beginning (class_of sets i) ≡ false
begins_none sets i other =
    one_other i.op 0 _ _ refl (one_other i.op 8 _ _ refl (one_other i.op 12 _ _ (either _ Passing Executable refl refl) (no_function i.op _ other
    (one_other i.op 55 _ _ refl (one_other i.op 56 _ _ refl (one_other i.op 59 _ _ (either _ Variable Passed refl refl)
    (one_other i.op 245 _ _ refl (one_other i.op 246 _ _ refl (one_other i.op 247 _ _ refl (one_other i.op 248 _ _ refl
    (one_other i.op 249 _ _ refl (one_other i.op 250 _ _ refl (one_other i.op 251 _ _ refl (one_other i.op 253 _ _ refl
    (one_other i.op 254 _ _ refl (one_other i.op 255 _ _ refl (one_other i.op 317 _ _ refl refl)))))))))))))))))

named_before : (position : Position) (i : Inst) (word : ℕ) → position.stage ≡ Outside → (i.op == 54) ≡ false → names_later i.op ≡ false
    → is_early (scope_of position i).before word ≡ true → word < i.word
named_before position i word out other later h =
    early_before ((in_function position.stage || (i.op == 54)) || names_later i.op) i.word word (rw (out, other, later) refl) h

type_before : (decoded : Decoded) (s : Stand) → s.position.stage ≡ Outside → (s.inst.op == 54) ≡ false → IsInOrder decoded s → is_constant s.inst.op ≡ true
    → (d : Definition) × (reads s.inst.ty (definitions_of decoded.insts) ≡ Some d) × (d.word < s.inst.word)
type_before decoded s out other order constant =
    let i = s.inst in
    let scope : Scope = scope_of s.position i in
    let some : i.ty ≢ 0 = has_type_id decoded i order.has_type (constant_has_type i.op constant) in
    let found = served scope DeclaredType (first decoded i.ty) (type_named decoded scope i.ty some order.type_named) in
    (found.0, first_read decoded i.ty found.0 found.1, named_before s.position i found.0.word out other (constant_names_before i.op constant) found.2)

type_first : (decoded : Decoded) (s : Stand) (front is : List Inst) → decoded.insts ≡ front ++ s.inst ∷ is → Ascend (suc s.inst.word) is → s.position.stage ≡ Outside
    → (s.inst.op == 54) ≡ false → IsInOrder decoded s → is_constant s.inst.op ≡ true → Contains (map (λ (j : Inst). j.id) front) s.inst.ty
unfolding definitions_of
type_first decoded s front is all rest out other order constant =
    let i = s.inst in
    let found = type_before decoded s out other order constant in
    let here : i.word ≤ i.word = omega arith in
    among (sets_of decoded.insts) outside i.word front (i ∷ is) i.ty found.0 (here, rest)
    (sym (ap (λ (insts : List Inst). reads i.ty (definitions_from (sets_of decoded.insts) outside insts)) all) ∙ found.1) found.2

-- ---- the types of all constants

pub types_first : (decoded : Decoded) (sets : List (ℕ × Bool)) (position : Position) (from : ℕ) (front insts : List Inst) → decoded.insts ≡ front ++ insts → Ascend from insts
    → position.stage ≡ Outside → AllByRecursion (IsInOrder decoded) (stands sets position insts) → TypesComeFirst front (before_functions insts)
unfolding before_functions
types_first decoded sets position from front [] all ascend out order = tt
types_first decoded sets position from front (i ∷ is) all (low, rest) out (here, order) =
    by_test (i.op == FUNCTION) refl
    (λ other. types_first decoded sets (position_after position (class_of sets i) i) (suc i.word) (front ++ i ∷ []) is (all ∙ sym (append_assoc front (i ∷ []) is)) rest
    (stays_outside (class_of sets i) position i out (begins_none sets i other)) order)
  where
    by_test : (b : Bool) → (i.op == FUNCTION) ≡ b → ((i.op == 54) ≡ false → TypesComeFirst (front ++ i ∷ []) (before_functions is))
        → TypesComeFirst front (cond b [] (i ∷ before_functions is))
    by_test true t behind = tt
    by_test false t behind = (
      λ constant. type_first decoded (record { position = position; class = class_of sets i; inst = i }) front is all rest out t here constant,
      behind t,
    )
