-- Ids are in order where none of them is refused.
use Rattle.std.proofs.Common.{◌≡◌, ◌⊎◌, inl, inr, ◌+◌, ◌==◌, ◌&&◌, ℕ, zero, suc, Bool, true, false, cond, List, [], ◌∷◌, ◌++◌, Some, Ok, slice_get, refl, arith}
use Rattle.std.specs.Prelude.{◌||◌}
use Rattle.std.specs.List.{AllByRecursion, flat_map, list_all}
use Rattle.std.proofs.lemmas.Bool.{and_from, and_parts, eq-eqb, eqb-true}
use Rattle.spv_types.proofs.Exports.{none_refused}
use Rattle.spv_base.proofs.Exports.{both_empty}
use Rattle.spv_base.specs.declared.instructions.Inst.{Inst}
use Rattle.spv_base.specs.declared.instructions.Operand.{Operand}
use Rattle.spv_base.specs.declared.instructions.Operand.TheVariants.{Id, Lit, Text}
use Rattle.spv_ops.specs.Module.{Decoded}
use Rattle.spv_index.specs.declared.classes.Class.{Class}
use Rattle.spv_index.specs.Operands.{ids_in}
use Rattle.spv_index.specs.Positions.{Stand, stands_of}
use Rattle.spv_types.specs.InterfaceBlocks.{nothing}
use Rattle.spv_sections.specs.declared.ids.Scope.{Scope}
use Rattle.spv_sections.specs.declared.kinds.Uses.{Uses}
use Rattle.spv_sections.specs.declared.kinds.Wanted.TheVariants.{DeclaredType}
use Rattle.spv_sections.specs.Kinds.{uses_of, wanted}
use Rattle.spv_sections.specs.Definitions.{is_id}
use Rattle.spv_sections.specs.Ids.{breaches_at, breaches_of, ids_of, is_naming, is_numbered, is_operand, is_result, is_type_id, looked_at, names, naming_breach, number_breach, operands_name, scope_of}
use Rattle.spv_sections.specs.Laws.{AreInOrder, IsInOrder}

-- ---- the operands of an instruction

-- each id among operands, of which the first one has a number, is in order
abbrev Each : Decoded → Scope → Uses → ℕ → List Operand → Type 0
Each decoded scope uses number operands =
    (k id : ℕ) → slice_get (ids_in operands) k ≡ Some id → (is_id decoded.bound id ≡ true) × (names decoded scope (wanted uses (number + k)) id ≡ true)

each_from : (decoded : Decoded) (scope : Scope) (uses : Uses) (number : ℕ) (operands : List Operand) → list_all (is_operand decoded.bound) operands ≡ true
    → operands_name decoded scope uses number operands ≡ true → Each decoded scope uses number operands
unfolding operands_name
each_from decoded scope uses number [] numbered named k id e = absurd (cc)
each_from decoded scope uses number (Id x ∷ more) numbered named zero id e =
    let same : x ≡ id = cc in
    let none : number + 0 ≡ number = omega arith in
    let here = and_parts (is_id decoded.bound x) (list_all (is_operand decoded.bound) more) numbered in
    let this = and_parts (names decoded scope (wanted uses number) x) (operands_name decoded scope uses (number + 1) more) named in
    rw (none, ← same) (here.0, this.0)
each_from decoded scope uses number (Id x ∷ more) numbered named (suc k) id e =
    let moved : number + suc k ≡ number + 1 + k = omega arith in
    let here = and_parts (is_id decoded.bound x) (list_all (is_operand decoded.bound) more) numbered in
    let this = and_parts (names decoded scope (wanted uses number) x) (operands_name decoded scope uses (number + 1) more) named in
    rw moved (each_from decoded scope uses (number + 1) more here.1 this.1 k id e)
each_from decoded scope uses number (Lit word ∷ more) numbered named k id e =
    let none : number + 0 ≡ number = omega arith in each_from decoded scope uses number more numbered (rw none at named) k id e
each_from decoded scope uses number (Text bytes ∷ more) numbered named k id e =
    let none : number + 0 ≡ number = omega arith in each_from decoded scope uses number more numbered (rw none at named) k id e

one_later : (decoded : Decoded) (scope : Scope) (uses : Uses) (number x : ℕ) (more : List Operand) → Each decoded scope uses number (Id x ∷ more) → Each decoded scope uses (number + 1) more
one_later decoded scope uses number x more each k id e = let moved : number + 1 + k ≡ number + suc k = omega arith in rw moved (each (suc k) id e)

from_each : (decoded : Decoded) (scope : Scope) (uses : Uses) (number : ℕ) (operands : List Operand) → Each decoded scope uses number operands
    → (list_all (is_operand decoded.bound) operands ≡ true) × (operands_name decoded scope uses number operands ≡ true)
unfolding operands_name
from_each decoded scope uses number [] each = (refl, refl)
from_each decoded scope uses number (Id x ∷ more) each =
    let none : number + 0 ≡ number = omega arith in
    let here = each 0 x refl in
    let rest = from_each decoded scope uses (number + 1) more (one_later decoded scope uses number x more each) in (
      and_from (is_id decoded.bound x) (list_all (is_operand decoded.bound) more) here.0 rest.0,
      and_from (names decoded scope (wanted uses number) x) (operands_name decoded scope uses (number + 1) more) (rw none at here.1) rest.1,
    )
from_each decoded scope uses number (Lit word ∷ more) each = let none : number + 0 ≡ number = omega arith in rw none (from_each decoded scope uses number more each)
from_each decoded scope uses number (Text bytes ∷ more) each = let none : number + 0 ≡ number = omega arith in rw none (from_each decoded scope uses number more each)

-- counted from the first operand
from_first : (decoded : Decoded) (scope : Scope) (uses : Uses) (operands : List Operand) → Each decoded scope uses 0 operands
    → (k id : ℕ) → slice_get (ids_in operands) k ≡ Some id → (is_id decoded.bound id ≡ true) × (names decoded scope (wanted uses k) id ≡ true)
from_first decoded scope uses operands each k id e = let none : 0 + k ≡ k = omega arith in rw none at (each k id e)

to_first : (decoded : Decoded) (scope : Scope) (uses : Uses) (operands : List Operand)
    → ((k id : ℕ) → slice_get (ids_in operands) k ≡ Some id → (is_id decoded.bound id ≡ true) × (names decoded scope (wanted uses k) id ≡ true)) → Each decoded scope uses 0 operands
to_first decoded scope uses operands each k id e = let none : 0 + k ≡ k = omega arith in rw none (each k id e)

-- ---- one instruction

inst_passes : (decoded : Decoded) (scope : Scope) (class : Class) (inst : Inst) → breaches_at decoded scope class inst ≡ []
    → (is_numbered decoded class inst ≡ true) × (is_naming decoded scope class inst ≡ true)
unfolding breaches_at
inst_passes decoded scope class inst none = by_tests (is_numbered decoded class inst) (is_naming decoded scope class inst) none
  where
    by_tests : (a b : Bool) → cond a [] (number_breach inst ∷ []) ++ cond b [] (naming_breach inst ∷ []) ≡ [] → (a ≡ true) × (b ≡ true)
    by_tests true true e = (refl, refl)
    by_tests true false e = absurd (cc)
    by_tests false b e = absurd (cc)

passes_inst : (decoded : Decoded) (scope : Scope) (class : Class) (inst : Inst) → is_numbered decoded class inst ≡ true → is_naming decoded scope class inst ≡ true
    → breaches_at decoded scope class inst ≡ []
unfolding breaches_at
passes_inst decoded scope class inst numbered naming = by_tests (is_numbered decoded class inst) (is_naming decoded scope class inst) numbered naming
  where
    by_tests : (a b : Bool) → a ≡ true → b ≡ true → cond a [] (number_breach inst ∷ []) ++ cond b [] (naming_breach inst ∷ []) ≡ []
    by_tests true true e f = refl
    by_tests true false e f = absurd (cc)
    by_tests false b e f = absurd (cc)

type_test : (ty : ℕ) (named : Bool) → ((ty == 0) || named) ≡ true → (ty ≡ 0) ⊎ (named ≡ true)
type_test ty named h = by_test (ty == 0) refl h
  where
    by_test : (b : Bool) → (ty == 0) ≡ b → (b || named) ≡ true → (ty ≡ 0) ⊎ (named ≡ true)
    by_test true t e = inl (eqb-true ty 0 t)
    by_test false t e = inr e

type_passes : (ty : ℕ) (named : Bool) → (ty ≡ 0) ⊎ (named ≡ true) → ((ty == 0) || named) ≡ true
type_passes ty named (inl none) = rw (eq-eqb ty 0 none) refl
type_passes ty true (inr e) = by_test (ty == 0)
  where
    by_test : (b : Bool) → (b || true) ≡ true
    by_test true = refl
    by_test false = refl
type_passes ty false (inr e) = absurd (cc)

in_order_from : (decoded : Decoded) (s : Stand) → breaches_of decoded s ≡ [] → IsInOrder decoded s
in_order_from decoded s none =
    let scope : Scope = scope_of s.position s.inst in
    let parts = inst_passes decoded scope s.class s.inst none in
    let numbered = and_parts (is_result decoded s.inst && is_type_id decoded s.inst) (list_all (is_operand decoded.bound) (looked_at s.class s.inst)) parts.0 in
    let first = and_parts (is_result decoded s.inst) (is_type_id decoded s.inst) numbered.0 in
    let naming = and_parts ((s.inst.ty == 0) || names decoded scope DeclaredType s.inst.ty) (operands_name decoded scope (uses_of s.inst.op) 0 (looked_at s.class s.inst)) parts.1 in
    record {
      result = first.0;
      has_type = first.1;
      type_named = type_test s.inst.ty (names decoded scope DeclaredType s.inst.ty) naming.0;
      operands = from_first decoded scope (uses_of s.inst.op) (looked_at s.class s.inst) (each_from decoded scope (uses_of s.inst.op) 0 (looked_at s.class s.inst) numbered.1 naming.1);
    }

order_passes : (decoded : Decoded) (s : Stand) → IsInOrder decoded s → breaches_of decoded s ≡ []
order_passes decoded s order =
    let scope : Scope = scope_of s.position s.inst in
    let each = from_each decoded scope (uses_of s.inst.op) 0 (looked_at s.class s.inst) (to_first decoded scope (uses_of s.inst.op) (looked_at s.class s.inst) order.operands) in
    passes_inst decoded scope s.class s.inst
    (and_from (is_result decoded s.inst && is_type_id decoded s.inst) (list_all (is_operand decoded.bound) (looked_at s.class s.inst))
    (and_from (is_result decoded s.inst) (is_type_id decoded s.inst) order.result order.has_type) each.0)
    (and_from ((s.inst.ty == 0) || names decoded scope DeclaredType s.inst.ty) (operands_name decoded scope (uses_of s.inst.op) 0 (looked_at s.class s.inst))
    (type_passes s.inst.ty (names decoded scope DeclaredType s.inst.ty) order.type_named) each.1)

-- ---- all instructions

all_in_order : (decoded : Decoded) (stood : List Stand) → flat_map (breaches_of decoded) stood ≡ [] → AllByRecursion (IsInOrder decoded) stood
all_in_order decoded [] none = tt
all_in_order decoded (s ∷ more) none =
    let parts = both_empty (breaches_of decoded s) (flat_map (breaches_of decoded) more) none in
    (in_order_from decoded s parts.0, all_in_order decoded more parts.1)

all_pass : (decoded : Decoded) (stood : List Stand) → AllByRecursion (IsInOrder decoded) stood → flat_map (breaches_of decoded) stood ≡ []
all_pass decoded [] order = refl
all_pass decoded (s ∷ more) (here, rest) = rw (order_passes decoded s here, all_pass decoded more rest) refl

pub in_order : (decoded : Decoded) → ids_of decoded ≡ Ok nothing → AreInOrder decoded
unfolding ids_of
in_order decoded passed = all_in_order decoded (stands_of decoded.insts) (none_refused _ passed)

pub from_order : (decoded : Decoded) → AreInOrder decoded → ids_of decoded ≡ Ok nothing
unfolding ids_of
from_order decoded order = rw (all_pass decoded (stands_of decoded.insts) order) refl
