-- Each function has a depth, and a first block that has a first executable.
use Rattle.std.proofs.Common.{◌≡◌, ◌∙◌, ◌≤◌, ◌==◌, ℕ, suc, Bool, true, false, not, cond, ◌||◌, List, [], ◌∷◌, ◌++◌, length, Some, refl, sym, ap, arith}
use Rattle.std.proofs.lemmas.Bool.{eqb-true, ltb-false}
use Rattle.std.specs.Prelude.{nat_lt}
use Rattle.std.specs.Option.{unwrap_or}
use Rattle.std.specs.List.{AllByRecursion, flat_map, list_all}
use Rattle.std.proofs.lemmas.List.Elements.{Contains-append_right}
use Rattle.spv_base.specs.Entries.{reads}
use Rattle.spv_base.specs.declared.instructions.Inst.{Inst}
use Rattle.spv_index.specs.declared.classes.Class.{Class}
use Rattle.spv_index.specs.declared.classes.Class.TheVariants.{Function, Executable}
use Rattle.spv_index.specs.declared.positions.Position.{Position}
use Rattle.spv_index.specs.Classes.{is_debug, is_local, class_of, classes}
use Rattle.spv_index.specs.Positions.{Stand, stands, begins, position_after}
use Rattle.spv_cfg.specs.Executables.{executable_of}
use Rattle.spv_cfg.specs.Branches.{Home, label_of}
use Rattle.spv_cfg.specs.Calls.{depths, function_of, functions_of, over, too_deep}
use Rattle.spv_cfg.specs.Chains.{lengths, limit, longest}
use Rattle.spv_cfg.specs.Flow.{Flow}
use Rattle.spv_cfg.specs.Laws.{HasDepth, HasFirstBlock}
use Rattle.spv_cfg.proofs.ChainLemmas.{heaviest-suc, longest-heaviest}
use Rattle.spv_cfg.proofs.Walks.{stand}
use Rattle.spv_cfg.proofs.LayoutLemmas.{Begun, IsWhole, executables_from, function_begins, whole_parts}
use Rattle.spv_cfg.proofs.BlockLaws.{first_among, one_further}
use Rattle.spv_cfg.proofs.TargetLaws.{all_from_test}
use Rattle.spv_base.proofs.Exports.{same_number, both_empty}

-- ---- an OpFunction is told by its opcode

-- only opcode 54 gives this class
abbrev GivesFunction : ℕ × Class → Type 0
GivesFunction e = e.1 ≡ Function → e.0 ≡ 54

key_of_function : (op : ℕ) (es : List (ℕ × Class)) → AllByRecursion GivesFunction es → unwrap_or (reads op es) Executable ≡ Function → op ≡ 54
key_of_function op [] only is = absurd (cc)
key_of_function op (e ∷ es) only is = by_key (e.0 == op) refl (key_of_function op es only.1) is
  where
    by_key : (b : Bool) → (e.0 == op) ≡ b → (unwrap_or (reads op es) Executable ≡ Function → op ≡ 54)
        → unwrap_or (cond b (Some e.1) (reads op es)) Executable ≡ Function → op ≡ 54
    by_key true same later here = sym (eqb-true e.0 op same) ∙ only.0 here
    by_key false same later here = later here

is_function : Class → Bool
is_function Function = true
is_function other = false

-- the same as a test
abbrev gives_function : ℕ × Class → Bool
gives_function e = not (is_function e.1) || (e.0 == 54)

test_of_function : (e : ℕ × Class) → gives_function e ≡ true → GivesFunction e
unfolding is_function
test_of_function e test = by_class e.1 test
  where
    by_class : (r : Class) → (not (is_function r) || (e.0 == 54)) ≡ true → r ≡ Function → e.0 ≡ 54
    by_class Function passed is = eqb-true e.0 54 passed
    by_class other passed is = absurd (cc)

tests_of_functions : (debug local : Bool) → list_all gives_function (classes debug local) ≡ true
unfolding is_function
tests_of_functions true true = refl
tests_of_functions true false = refl
tests_of_functions false true = refl
tests_of_functions false false = refl

classes_of_functions : (debug local : Bool) → AllByRecursion GivesFunction (classes debug local)
classes_of_functions debug local = all_from_test gives_function GivesFunction test_of_function (classes debug local) (tests_of_functions debug local)

pub opcode_of_function : (sets : List (ℕ × Bool)) (inst : Inst) → class_of sets inst ≡ Function → inst.op ≡ 54
opcode_of_function sets inst is =
    key_of_function inst.op (classes (is_debug sets inst) (is_local inst)) (classes_of_functions (is_debug sets inst) (is_local inst)) is

-- ---- depths

-- a depth that is known, and not too great
abbrev Deep : ℕ → List (ℕ × ℕ) → Type 0
Deep id es = (n : ℕ) × (reads id es ≡ Some n) × (1 ≤ n) × (n ≤ 64)

not_over : (word n : ℕ) → over word n ≡ [] → n ≤ 64
not_over word n none = by_test (nat_lt 64 n) refl none
  where
    by_test : (b : Bool) → nat_lt 64 n ≡ b → cond b (word ∷ []) [] ≡ [] → n ≤ 64
    by_test true is e = absurd (cc)
    by_test false is e = ltb-false 64 n is

at_least_one : (calls : List (ℕ × ℕ)) (k : ℕ) → 1 ≤ longest limit calls k
at_least_one calls k = rw (longest-heaviest 65 calls k, heaviest-suc 64 (λ g. 1) calls k) (omega arith)

deep_among : (calls : List (ℕ × ℕ)) (k : ℕ) (front rest : List (ℕ × ℕ)) (id word : ℕ)
    → too_deep (front ++ (id, word) ∷ rest) (lengths calls k (length (front ++ (id, word) ∷ rest))) ≡ []
    → Deep id (depths (front ++ (id, word) ∷ rest) (lengths calls k (length (front ++ (id, word) ∷ rest))))
deep_among calls k [] rest id word none =
    let parts = both_empty (over word (longest limit calls k)) _ none in
    (longest limit calls k, rw (same_number id) refl, at_least_one calls k, not_over word (longest limit calls k) parts.0)
deep_among calls k (e ∷ front) rest id word none =
    let all : List (ℕ × ℕ) = front ++ (id, word) ∷ rest in
    let parts = both_empty (over e.1 (longest limit calls k)) (too_deep all (lengths calls (suc k) (length all))) none in
    by_key (e.0 == id) (at_least_one calls k) (not_over e.1 (longest limit calls k) parts.0) (deep_among calls (suc k) front rest id word parts.1)
  where
    by_key : (b : Bool) → 1 ≤ longest limit calls k → longest limit calls k ≤ 64
        → Deep id (depths (front ++ (id, word) ∷ rest) (lengths calls (suc k) (length (front ++ (id, word) ∷ rest))))
        → (n : ℕ) × (cond b (Some (longest limit calls k)) (reads id (depths (front ++ (id, word) ∷ rest) (lengths calls (suc k) (length (front ++ (id, word) ∷ rest))))) ≡ Some n) × (1 ≤ n) × (n ≤ 64)
    by_key true least most_is later = (longest limit calls k, refl, least, most_is)
    by_key false least most_is later = later

pub depths_are_known : (f : Flow) (calls whole : List (ℕ × ℕ)) (sets : List (ℕ × Bool)) (position : Position) (insts : List Inst) (front : List (ℕ × ℕ))
    → f.depths ≡ depths whole (lengths calls 0 (length whole)) → too_deep whole (lengths calls 0 (length whole)) ≡ [] → front ++ functions_of insts ≡ whole
    → AllByRecursion (λ (s : Stand). s.class ≡ Function → HasDepth f s.inst.id) (stands sets position insts)
depths_are_known f calls whole sets position [] front depths_are none is = tt
depths_are_known f calls whole sets position (inst ∷ insts) front depths_are none is = (
  λ class.
      let test : (inst.op == 54) ≡ true = rw (opcode_of_function sets inst class) refl in
      let among : front ++ (inst.id, inst.word) ∷ functions_of insts ≡ whole = rw test at is in
      let found = deep_among calls 0 front (functions_of insts) inst.id inst.word (rw among none) in
      (found.0, ap (reads inst.id) depths_are ∙ sym (ap (λ (fs : List (ℕ × ℕ)). reads inst.id (depths fs (lengths calls 0 (length fs)))) among) ∙ found.1, found.2, found.3),
  depths_are_known f calls whole sets (position_after position (class_of sets inst) inst) insts (front ++ function_of inst) depths_are none
      (one_further front (function_of inst) (functions_of insts) whole is),
)

-- ---- first blocks

begun_at : (r : Class) (f : Flow) (known : List (ℕ × Home)) (position : Position) (inst : Inst) (labels rest : List (ℕ × Home)) (front es : List (ℕ × ℕ))
    → (position_after position r inst ≡ begins inst → Begun inst.id rest es)
    → labels ++ (label_of (record { position = position; class = r; inst = inst }) ++ rest) ≡ known
    → front ++ (executable_of (record { position = position; class = r; inst = inst }) ++ es) ≡ f.blocks
    → r ≡ Function → HasFirstBlock known f inst.id
begun_at Function f known position inst labels rest front es begun labels_are blocks_are class =
    let found = begun refl in
    (found.0, rw labels_are at (Contains-append_right labels rest _ found.1), first_among f front es found.0 found.2 blocks_are)
begun_at other f known position inst labels rest front es begun labels_are blocks_are class = absurd (cc)

pub functions_begin : (f : Flow) (known : List (ℕ × Home)) (sets : List (ℕ × Bool)) (position : Position) (insts : List Inst) (labels : List (ℕ × Home)) (front : List (ℕ × ℕ))
    → IsWhole sets position insts → labels ++ flat_map label_of (stands sets position insts) ≡ known → front ++ executables_from sets position insts ≡ f.blocks
    → AllByRecursion (λ (s : Stand). s.class ≡ Function → HasFirstBlock known f s.inst.id) (stands sets position insts)
functions_begin f known sets position [] labels front whole labels_are blocks_are = tt
functions_begin f known sets position (inst ∷ insts) labels front whole labels_are blocks_are =
    let parts = whole_parts sets position inst insts whole in
    let after : Position = position_after position (class_of sets inst) inst in
    let here : Stand = stand sets position inst in
    let rest : List (ℕ × Home) = flat_map label_of (stands sets after insts) in
    let es : List (ℕ × ℕ) = executables_from sets after insts in (
      begun_at (class_of sets inst) f known position inst labels rest front es (λ same. rw same (function_begins sets inst insts (rw same at parts.1))) labels_are blocks_are,
      functions_begin f known sets after insts (labels ++ label_of here) (front ++ executable_of here) parts.1
          (one_further labels (label_of here) rest known labels_are) (one_further front (executable_of here) es f.blocks blocks_are),
    )
