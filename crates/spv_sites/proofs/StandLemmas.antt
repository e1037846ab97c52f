-- What is so of each instruction of a module where it stands: its class, the word at which it is found, and that one in a block stands
-- behind an OpFunction.
use Rattle.std.proofs.Common.{◌≡◌, ℕ, suc, ◌≤◌, ◌==◌, Bool, true, false, cond, eqb, List, [], ◌∷◌, drop, length, Some, refl, subst, arith}
use Rattle.std.proofs.lemmas.Bool.{and_parts, both_ways, eq-eqb, eqb-true, false_from_ne_true, ne_eqb}
use Rattle.std.specs.Prelude.{not, unwrap_or, ◌||◌}
use Rattle.std.specs.List.{AllByRecursion, list_all}
use Rattle.spv_base.specs.Entries.{reads}
use Rattle.spv_base.specs.Order.{Ascend}
use Rattle.spv_base.specs.declared.instructions.Inst.{Inst}
use Rattle.spv_index.specs.declared.classes.Class.{Class}
use Rattle.spv_index.specs.declared.classes.Class.TheVariants.{Function, Parameter, End, Label, Line, Phi, Variable, Terminator, Passed, Executable}
use Rattle.spv_index.specs.declared.positions.Position.{Position}
use Rattle.spv_index.specs.declared.positions.Stage.{Stage}
use Rattle.spv_index.specs.declared.positions.Stage.TheVariants.{Outside, Head, Phis, Variables, Body, Between}
use Rattle.spv_index.specs.Classes.{class_of, classes, is_debug, is_local, is_terminator}
use Rattle.spv_index.specs.Definitions.{at, before_functions}
use Rattle.spv_index.specs.Positions.{Stand, among_variables, in_block, in_function, position_after, stands}

-- ---- classes

abbrev pub is_function : Class → Bool
is_function Function = true
is_function _ = false

-- 54 is OpFunction's opcode
abbrev is_function_code : ℕ → Bool
is_function_code op = op == 54

-- OpBranch 249, OpBranchConditional 250, OpSwitch 251, OpReturn 253, OpReturnValue 254, OpUnreachable 255
abbrev pub is_end_code : ℕ → Bool
is_end_code op = ((op == 249 || op == 250) || op == 251) || ((op == 253 || op == 254) || op == 255)

-- a class that passes a test is that of an opcode that passes another
key_of : (test : Class → Bool) (key : ℕ → Bool) (op : ℕ) (es : List (ℕ × Class)) → test Executable ≡ false → list_all (λ (e : ℕ × Class). not (test e.1) || key e.0) es ≡ true
    → test (unwrap_or (reads op es) Executable) ≡ true → key op ≡ true
key_of test key op [] none each is = absurd (both_ways (test Executable) none is)
key_of test key op (e ∷ es) none each is =
    let parts = and_parts (not (test e.1) || key e.0) (list_all (λ (e : ℕ × Class). not (test e.1) || key e.0) es) each in
    by_key (e.0 == op) refl (key_of test key op es none parts.1) (of_test (test e.1) parts.0) is
  where
    of_test : (b : Bool) → (not b || key e.0) ≡ true → b ≡ true → key e.0 ≡ true
    of_test true h is = h
    of_test false h is = absurd (cc)

    by_key : (b : Bool) → (e.0 == op) ≡ b → (test (unwrap_or (reads op es) Executable) ≡ true → key op ≡ true) → (test e.1 ≡ true → key e.0 ≡ true)
        → test (unwrap_or (cond b (Some e.1) (reads op es)) Executable) ≡ true → key op ≡ true
    by_key true same later own here = subst (λ (n : ℕ). key n ≡ true) (eqb-true e.0 op same) (own here)
    by_key false same later own here = later here

functions_keyed : (debug local : Bool) → list_all (λ (e : ℕ × Class). not (is_function e.1) || is_function_code e.0) (classes debug local) ≡ true
functions_keyed true true = refl
functions_keyed true false = refl
functions_keyed false true = refl
functions_keyed false false = refl

ends_keyed : (debug local : Bool) → list_all (λ (e : ℕ × Class). not (is_terminator e.1) || is_end_code e.0) (classes debug local) ≡ true
ends_keyed true true = refl
ends_keyed true false = refl
ends_keyed false true = refl
ends_keyed false false = refl

no_function : (sets : List (ℕ × Bool)) (i : Inst) → (i.op == 54) ≡ false → is_function (class_of sets i) ≡ false
no_function sets i other =
    false_from_ne_true (is_function (class_of sets i)) (λ (is : is_function (class_of sets i) ≡ true).
    both_ways (i.op == 54) other (key_of is_function is_function_code i.op (classes (is_debug sets i) (is_local i)) refl (functions_keyed (is_debug sets i) (is_local i)) is))

-- a terminator has one of the opcodes that end blocks
pub end_code : (sets : List (ℕ × Bool)) (i : Inst) → is_terminator (class_of sets i) ≡ true → is_end_code i.op ≡ true
end_code sets i is = key_of is_terminator is_end_code i.op (classes (is_debug sets i) (is_local i)) refl (ends_keyed (is_debug sets i) (is_local i)) is

-- a stand has the class of its instruction
abbrev pub HasClass : List (ℕ × Bool) → Stand → Type 0
HasClass sets s = s.class ≡ class_of sets s.inst

pub each_has_class : (sets : List (ℕ × Bool)) (position : Position) (insts : List Inst) → AllByRecursion (HasClass sets) (stands sets position insts)
each_has_class sets position [] = tt
each_has_class sets position (i ∷ is) = (refl, each_has_class sets (position_after position (class_of sets i) i) is)

-- ---- words

-- a stand's instruction is the one that is found at its word
abbrev pub IsFoundIn : List Inst → Stand → Type 0
IsFoundIn insts s = at insts s.inst.word ≡ Some s.inst

each_behind : (sets : List (ℕ × Bool)) (position : Position) (insts : List Inst) (from low : ℕ) → low ≤ from → Ascend from insts → AllByRecursion (λ (s : Stand). low ≤ s.inst.word) (stands sets position insts)
each_behind sets position [] from low le ascend = tt
each_behind sets position (i ∷ is) from low le ascend =
    (omega (arith, ascend.0), each_behind sets (position_after position (class_of sets i) i) is (suc i.word) low (omega (arith, ascend.0)) ascend.1)

found_later : (i : Inst) (is : List Inst) (ss : List Stand) → AllByRecursion (λ (s : Stand). suc i.word ≤ s.inst.word) ss → AllByRecursion (IsFoundIn is) ss → AllByRecursion (IsFoundIn (i ∷ is)) ss
unfolding at
found_later i is [] behind found = tt
found_later i is (s ∷ ss) behind found =
    let le : suc i.word ≤ s.inst.word = behind.0 in
    let other : eqb i.word s.inst.word ≡ false = ne_eqb i.word s.inst.word (λ (same : i.word ≡ s.inst.word). omega arith) in
    (rw other found.0, found_later i is ss behind.1 found.1)

pub each_is_found : (sets : List (ℕ × Bool)) (position : Position) (insts : List Inst) (from : ℕ) → Ascend from insts → AllByRecursion (IsFoundIn insts) (stands sets position insts)
unfolding at
each_is_found sets position [] from ascend = tt
each_is_found sets position (i ∷ is) from ascend =
    let after : Position = position_after position (class_of sets i) i in
    let same : eqb i.word i.word ≡ true = eq-eqb i.word i.word refl in
    (rw same refl, found_later i is (stands sets after is) (each_behind sets after is (suc i.word) (suc i.word) (omega arith) ascend.1) (each_is_found sets after is (suc i.word) ascend.1))

-- ---- functions

-- what is so of each instruction from a place on is so of each stand
pub each_stand : (P : Inst → Type 0) (sets : List (ℕ × Bool)) (position : Position) (insts : List Inst) → AllByRecursion P insts → AllByRecursion (λ (s : Stand). P s.inst) (stands sets position insts)
each_stand P sets position [] each = tt
each_stand P sets position (i ∷ is) each = (each.0, each_stand P sets (position_after position (class_of sets i) i) is each.1)

-- an instruction in a block
abbrev pub InBlock : (Inst → Type 0) → Stand → Type 0
InBlock P s = in_block s.position.stage ≡ true → P s.inst

in_any : (P : Inst → Type 0) (ss : List Stand) → AllByRecursion (λ (s : Stand). P s.inst) ss → AllByRecursion (InBlock P) ss
in_any P [] each = tt
in_any P (s ∷ ss) each = (λ _. each.0, in_any P ss each.1)

none_in_block : (stage : Stage) → in_function stage ≡ false → in_block stage ≡ true → ⊥
none_in_block = grind arith

still_outside : (stage t : Stage) → in_function stage ≡ false → in_function (cond (in_block stage) t stage) ≡ false
still_outside = grind arith

among_none : (stage : Stage) → in_function stage ≡ false → among_variables stage ≡ false
among_none = grind arith

-- a class other than that of a function leaves one outside
stays_outside : (position : Position) (class : Class) (i : Inst) → is_function class ≡ false → in_function position.stage ≡ false → in_function (position_after position class i).stage ≡ false
stays_outside = grind (arith, among_none, still_outside)

-- what is so of each instruction from the first function on is so of each one in a block
pub each_in_block : (P : Inst → Type 0) (sets : List (ℕ × Bool)) (position : Position) (insts : List Inst) → in_function position.stage ≡ false
    → AllByRecursion P (drop (length (before_functions insts)) insts) → AllByRecursion (InBlock P) (stands sets position insts)
unfolding before_functions
each_in_block P sets position [] out each = tt
each_in_block P sets position (i ∷ is) out each = by_test (i.op == 54) refl each (each_in_block P sets after is)
  where
    after : Position
    after = position_after position (class_of sets i) i

    by_test : (b : Bool) → (i.op == 54) ≡ b → AllByRecursion P (drop (length (cond b [] (i ∷ before_functions is))) (i ∷ is))
        → (in_function after.stage ≡ false → AllByRecursion P (drop (length (before_functions is)) is) → AllByRecursion (InBlock P) (stands sets after is))
        → AllByRecursion (InBlock P) (stands sets position (i ∷ is))
    by_test true e each rest = in_any P (stands sets position (i ∷ is)) (each_stand P sets position (i ∷ is) each)
    by_test false e each rest =
        (λ h. absurd (none_in_block position.stage out h), rest (stays_outside position (class_of sets i) i (no_function sets i e) out) each)
