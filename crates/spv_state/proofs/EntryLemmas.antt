-- The entry function of an accepted module: it is one of its functions, some chain of calls begins with it, and it has a first executable.
use Rattle.std.proofs.Common.{◌≡◌, ◌∙◌, ℕ, zero, suc, ◌<◌, ◌≤◌, ◌&&◌, ◌==◌, Bool, true, false, cond, List, [], ◌∷◌, ◌++◌, map, Option, Some, None, refl, ap, subst, arith, slice_get}
use Rattle.std.proofs.Math.Logic.{∥∥₁_elim}
use Rattle.std.proofs.Props.{props}
use Rattle.std.proofs.lemmas.Bool.{eqb-true}
use Rattle.std.specs.Prelude.{find, if◌then◌else◌}
use Rattle.std.specs.List.{AllByRecursion, Contains, flat_map}
use Rattle.std.specs.Option.{option_and_then, option_map_or}
use Rattle.spv_base.specs.Entries.{reads}
use Rattle.spv_base.specs.declared.instructions.Inst.{Inst}
use Rattle.spv_index.specs.declared.classes.Class.TheVariants.{Function}
use Rattle.spv_index.specs.declared.positions.Position.{Position}
use Rattle.spv_index.specs.Classes.{class_of, sets_of}
use Rattle.spv_index.specs.Definitions.{defining, has_result, is_id}
use Rattle.spv_index.specs.Positions.{Stand, outside, position_after, stands}
use Rattle.spv_index.specs.Operands.{id_operand}
use Rattle.spv_types.specs.Types.{Types, form_of}
use Rattle.spv_valid.specs.Below.spv_cfg.specs.Calls.{function_of}
use Rattle.spv_valid.specs.Below.spv_cfg.specs.Flow.{Flow}
use Rattle.spv_valid.specs.Below.spv_cfg.specs.Laws.{HasDepth}
use Rattle.spv_valid.specs.Acceptance.{Accepted, IsAccepted}
use Rattle.spv_valid.specs.Entry.{begins_plain, is_plain, is_plain_function}
use Rattle.spv_valid.specs.Validity.{IsValid}
use Rattle.spv_plans.specs.Plans.{functions_in}
use Rattle.spv_plans.proofs.Exports.{function_class}
use Rattle.spv_base.proofs.Exports.{contains_later, each_at}

-- ---- lists

-- an instruction among some
record IsInst (insts : List Inst) (code id : ℕ) : Type 0 where
  number : ℕ
  inst : Inst
  at : slice_get insts number ≡ Some inst
  op : inst.op ≡ code
  is : inst.id ≡ id

later : (code id : ℕ) (i : Inst) (is : List Inst) → IsInst is code id → IsInst (i ∷ is) code id
later code id i is h = record { number = suc h.number; inst = h.inst; at = h.at; op = h.op; is = h.is }

-- ---- the OpFunction (54)

found_at : (code id : ℕ) (insts : List Inst) (i : Inst) → find (has_result id) insts ≡ Some i → i.op ≡ code → IsInst insts code id
found_at code id [] i h of = absurd (cc)
found_at code id (j ∷ js) i h of = by_test (j.id == id) refl h (λ g. found_at code id js i g of)
  where
    by_test : (b : Bool) → (j.id == id) ≡ b → cond b (Some j) (find (has_result id) js) ≡ Some i → (find (has_result id) js ≡ Some i → IsInst js code id) → IsInst (j ∷ js) code id
    by_test true e g rest = let same : j ≡ i = cc in record { number = 0; inst = j; at = refl; op = ap (λ (x : Inst). x.op) same ∙ of; is = eqb-true j.id id e }
    by_test false e g rest = later code id j js (rest g)

plain_op : (ts : Types) (i : Inst) → begins_plain ts i ≡ true → i.op ≡ 54
plain_op ts i h = by_test (i.op == 54) refl h
  where
    by_test : (b : Bool) → (i.op == 54) ≡ b → (b && is_plain ts (option_and_then (form_of ts) (id_operand i 1))) ≡ true → i.op ≡ 54
    by_test true e g = eqb-true i.op 54 e
    by_test false e g = absurd (cc)

plain_at : (ts : Types) (insts : List Inst) (id : ℕ) → is_plain_function ts insts id ≡ true → IsInst insts 54 id
unfolding defining
plain_at ts insts id h = by_id (is_id id) h
  where
    by_found : (o : Option Inst) → find (has_result id) insts ≡ o → option_map_or (begins_plain ts) o false ≡ true → IsInst insts 54 id
    by_found None e g = absurd (cc)
    by_found (Some i) e g = found_at 54 id insts i e (plain_op ts i g)

    by_id : (b : Bool) → option_map_or (begins_plain ts) (if b then find (has_result id) insts else None) false ≡ true → IsInst insts 54 id
    by_id true g = by_found (find (has_result id) insts) refl g
    by_id false g = absurd (cc)

-- ---- it is a function of the module

pub function_listed : (id : ℕ) (insts : List Inst) (k : ℕ) (i : Inst) → slice_get insts k ≡ Some i → i.op ≡ 54 → i.id ≡ id → Contains (map (λ (f : ℕ × ℕ). f.0) (flat_map function_of insts)) id
function_listed id [] k i at op is = absurd (cc)
function_listed id (j ∷ js) zero i at op is =
    let same : j ≡ i = cc in
    let test : (j.op == 54) ≡ true = rw same (rw op refl) in
    rw test (0, omega arith, ap (λ (x : Inst). x.id) same ∙ is)
function_listed id (j ∷ js) (suc k) i at op is = by_test (j.op == 54) (function_listed id js k i at op is)
  where
    by_test : (b : Bool) → Contains (map (λ (f : ℕ × ℕ). f.0) (flat_map function_of js)) id → Contains (map (λ (f : ℕ × ℕ). f.0) (cond b ((j.id, j.word) ∷ []) [] ++ flat_map function_of js)) id
    by_test true h = contains_later j.id id _ h
    by_test false h = h

pub entry_listed : (a : Accepted) → IsValid a → Contains (functions_in a) a.entry
entry_listed a v =
    let f = plain_at a.types a.insts a.entry v.entry.plain in
    function_listed a.entry a.insts f.number f.inst f.at f.op f.is

-- ---- some chain of calls begins with it

stand_with : (P : Stand → Type 0) (sets : List (ℕ × Bool)) (position : Position) (insts : List Inst) (k : ℕ) (i : Inst) → AllByRecursion P (stands sets position insts) → slice_get insts k ≡ Some i
    → (s : Stand) × (s.inst ≡ i) × (s.class ≡ class_of sets i) × P s
stand_with P sets position [] k i all at = absurd (cc)
stand_with P sets position (j ∷ js) zero i (first, rest) at =
    let same : j ≡ i = cc in (record { position = position; class = class_of sets j; inst = j }, same, ap (class_of sets) same, first)
stand_with P sets position (j ∷ js) (suc k) i (first, rest) at = stand_with P sets (position_after position (class_of sets j) j) js k i rest at

depth_is : (f : Flow) (id depth : ℕ) → HasDepth f id → reads id f.depths ≡ Some depth → 1 ≤ depth
depth_is f id depth (n, known, some, few) is = let same : n ≡ depth = cc in subst (λ (m : ℕ). 1 ≤ m) same some

some_depth : (a : Accepted) → IsValid a → 1 ≤ a.depth
some_depth a v =
    let f = plain_at a.types a.insts a.entry v.entry.plain in
    let s = stand_with (λ (s : Stand). s.class ≡ Function → HasDepth a.flow s.inst.id) (sets_of a.insts) outside a.insts f.number f.inst v.depths f.at in
    let has = s.3 (s.2 ∙ function_class (sets_of a.insts) f.inst f.op) in
    depth_is a.flow a.entry a.depth (subst (HasDepth a.flow) (ap (λ (x : Inst). x.id) s.1 ∙ f.is) has) v.entry.depth

pub entry_depth : (a : Accepted) → ∥ IsValid a ∥₁ → 1 ≤ a.depth
entry_depth a valid = ∥∥₁_elim valid (hlevel props) (some_depth a)

-- ---- words

pub word_small : (a : Accepted) (k : ℕ) (i : Inst) → ∥ IsAccepted a ∥₁ → slice_get a.insts k ≡ Some i → i.word < 1048576
word_small a k i accepted at = ∥∥₁_elim accepted (hlevel props) (λ (is : IsAccepted a). each_at (λ (x : Inst). x.word < 1048576) a.insts k i is.decoded.words at)
