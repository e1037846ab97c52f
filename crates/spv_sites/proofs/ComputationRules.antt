-- An instruction that computes, at which a run stops, keeps the rule of its computation.
use Rattle.std.proofs.Common.{◌≡◌, ◌∙◌, inl, inr, ℕ, Bool, true, false, cond, List, Some, refl, sym, ap, subst}
use Rattle.std.specs.Prelude.{◌&&◌, not}
use Rattle.std.specs.Option.{unwrap_or}
use Rattle.std.proofs.lemmas.Bool.{and_parts, both_ways, false_from_ne_true, not-true}
use Rattle.spv_base.specs.Entries.{reads}
use Rattle.spv_base.specs.declared.instructions.Inst.{Inst}
use Rattle.spv_state.specs.Below.spv_alu.specs.Binary.{binary_op, binary_opcodes}
use Rattle.spv_state.specs.Below.spv_alu.specs.Extended.{extended_op, extended_opcodes}
use Rattle.spv_state.specs.Below.spv_alu.specs.Fields.{field_op, field_opcodes}
use Rattle.spv_state.specs.Below.spv_alu.specs.Unary.{unary_op, unary_opcodes}
use Rattle.spv_state.specs.Below.spv_alu.specs.Vectors.{vector_op, vector_opcodes}
use Rattle.spv_state.specs.Below.spv_alu.specs.declared.binary_op.BinaryOp.{BinaryOp}
use Rattle.spv_state.specs.Below.spv_alu.specs.declared.extended_op.ExtendedOp.{ExtendedOp}
use Rattle.spv_state.specs.Below.spv_alu.specs.declared.field_op.FieldOp.{FieldOp}
use Rattle.spv_state.specs.Below.spv_alu.specs.declared.unary_op.UnaryOp.{UnaryOp}
use Rattle.spv_state.specs.Below.spv_alu.specs.declared.vector_op.VectorOp.{VectorOp}
use Rattle.spv_index.specs.declared.classes.Class.TheVariants.{Line, Executable}
use Rattle.spv_index.specs.Classes.{class_of, classes, is_debug, is_executable, is_local, is_terminator, sets_of}
use Rattle.spv_valid.specs.Below.spv_bodies.specs.Bodies.{KeepsRule}
use Rattle.spv_valid.specs.Below.spv_bodies.specs.Context.{Known}
use Rattle.spv_valid.specs.Below.spv_bodies.specs.Lanes.{KeepsLanes}
use Rattle.spv_valid.specs.Below.spv_bodies.specs.Memory.{KeepsLoad, KeepsStore}
use Rattle.spv_valid.specs.Below.spv_bodies.specs.Places.{Placed}
use Rattle.spv_valid.specs.Below.spv_bodies.specs.Rules.{atomic_rule, composite_rule, control_rule, memory_rule, other_rule, rule_of}
use Rattle.spv_valid.specs.Below.spv_bodies.specs.declared.rules.Rule.{Rule}
use Rattle.spv_valid.specs.Below.spv_bodies.specs.declared.rules.Rule.TheVariants.{Free, Lanes, Select as SelectRule, Extended as ExtendedRule, Memory, Atomic, Composite, Control}
use Rattle.spv_valid.specs.Acceptance.{Accepted}
use Rattle.spv_state.specs.Below.spv_results.specs.Operands.{known}
use Rattle.spv_state.specs.Below.spv_results.specs.declared.computations.Computation.{Computation}
use Rattle.spv_state.specs.Below.spv_results.specs.declared.computations.Computation.TheVariants.{Undef, Unary, Bitcast, Truth, Binary, Field, Extended, Select, Glsl, ExtractDynamic, InsertDynamic, Shuffle, Construct, Extract, Insert, Copy}
use Rattle.spv_sites.specs.Kept.{Keeps}
use Rattle.spv_sites.proofs.ComputationLemmas.{IsComputed, key_passes}
use Rattle.spv_sites.proofs.RunLemmas.{alone, is_own}
use Rattle.spv_sites.proofs.StandLemmas.{end_code, is_end_code}

-- ---- lane-wise opcodes

abbrev is_lanes : Rule → Bool
is_lanes Free = false
is_lanes Lanes = true
is_lanes SelectRule = false
is_lanes ExtendedRule = false
is_lanes (Memory rule) = false
is_lanes (Atomic rule) = false
is_lanes (Composite rule) = false
is_lanes (Control rule) = false

-- a lane-wise opcode, which ends no block
abbrev is_lane_code : ℕ → Bool
is_lane_code op = is_lanes (rule_of op) && not (is_end_code op)

unary_code : (op : ℕ) (x : UnaryOp) → unary_op op ≡ Some x → is_lane_code op ≡ true
unfolding unary_op memory_rule atomic_rule composite_rule control_rule other_rule
unary_code op x h = key_passes is_lane_code op x unary_opcodes refl h

binary_code : (op : ℕ) (x : BinaryOp) → binary_op op ≡ Some x → is_lane_code op ≡ true
unfolding binary_op memory_rule atomic_rule composite_rule control_rule other_rule
binary_code op x h = key_passes is_lane_code op x binary_opcodes refl h

extended_code : (op : ℕ) (x : ExtendedOp) → extended_op op ≡ Some x → is_lane_code op ≡ true
unfolding extended_op memory_rule atomic_rule composite_rule control_rule other_rule
extended_code op x h = key_passes is_lane_code op x extended_opcodes refl h

field_code : (op : ℕ) (x : FieldOp) → field_op op ≡ Some x → is_lane_code op ≡ true
unfolding field_op memory_rule atomic_rule composite_rule control_rule other_rule
field_code op x h = key_passes is_lane_code op x field_opcodes refl h

vector_code : (op : ℕ) (x : VectorOp) → vector_op op ≡ Some x → is_lane_code op ≡ true
unfolding vector_op memory_rule atomic_rule composite_rule control_rule other_rule
vector_code op x h = key_passes is_lane_code op x vector_opcodes refl h

lanes_kept : (k : Known) (p : Placed) (r : Rule) → is_lanes r ≡ true → KeepsRule k p r → KeepsLanes k p.inst
lanes_kept k p Free is kept = absurd (cc)
lanes_kept k p Lanes is kept = kept
lanes_kept k p SelectRule is kept = absurd (cc)
lanes_kept k p ExtendedRule is kept = absurd (cc)
lanes_kept k p (Memory rule) is kept = absurd (cc)
lanes_kept k p (Atomic rule) is kept = absurd (cc)
lanes_kept k p (Composite rule) is kept = absurd (cc)
lanes_kept k p (Control rule) is kept = absurd (cc)

lanes_own : (r : Rule) → is_lanes r ≡ true → is_own r ≡ true
lanes_own Free is = refl
lanes_own Lanes is = refl
lanes_own SelectRule is = refl
lanes_own ExtendedRule is = refl
lanes_own (Memory rule) is = refl
lanes_own (Atomic rule) is = refl
lanes_own (Composite rule) is = refl
lanes_own (Control rule) is = absurd (cc)

-- ---- the rule looks at the instruction alone, and the instruction ends no block

abbrev pub is_plain_code : ℕ → Bool
is_plain_code op = is_own (rule_of op) && not (is_end_code op)

lane_plain : (op : ℕ) → is_lane_code op ≡ true → is_plain_code op ≡ true
lane_plain op h =
    let parts = and_parts (is_lanes (rule_of op)) (not (is_end_code op)) h in
    both (is_own (rule_of op)) (not (is_end_code op)) (lanes_own (rule_of op) parts.0) parts.1
  where
    both : (p q : Bool) → p ≡ true → q ≡ true → (p && q) ≡ true
    both p q h g = rw (h, g) refl

pub one_plain : (op n : ℕ) → op ≡ n → is_plain_code n ≡ true → is_plain_code op ≡ true
one_plain op n same plain = ap is_plain_code same ∙ plain

pub computed_plain : (i : Inst) (c : Computation) → IsComputed i c → is_plain_code i.op ≡ true
unfolding memory_rule atomic_rule composite_rule control_rule other_rule
computed_plain i Undef h = one_plain i.op 1 h refl
computed_plain i (Unary x) h = lane_plain i.op (unary_code i.op x h)
computed_plain i Bitcast h = one_plain i.op 124 h refl
computed_plain i (Truth x) h = lane_plain i.op (vector_code i.op x h)
computed_plain i (Binary x) h = lane_plain i.op (binary_code i.op x h)
computed_plain i (Field x) h = lane_plain i.op (field_code i.op x h)
computed_plain i (Extended x) h = lane_plain i.op (extended_code i.op x h)
computed_plain i Select h = one_plain i.op 169 h refl
computed_plain i (Glsl x) h = one_plain i.op 12 h.0 refl
computed_plain i ExtractDynamic h = one_plain i.op 77 h refl
computed_plain i InsertDynamic h = one_plain i.op 78 h refl
computed_plain i Shuffle h = one_plain i.op 79 h refl
computed_plain i Construct h = one_plain i.op 80 h refl
computed_plain i Extract h = one_plain i.op 81 h refl
computed_plain i Insert h = one_plain i.op 82 h refl
computed_plain i Copy (inl h) = one_plain i.op 83 h refl
computed_plain i Copy (inr h) = one_plain i.op 400 h refl

pub load_plain : (op : ℕ) → op ≡ 61 → is_plain_code op ≡ true
unfolding memory_rule atomic_rule composite_rule control_rule other_rule
load_plain op h = one_plain op 61 h refl

pub store_plain : (op : ℕ) → op ≡ 62 → is_plain_code op ≡ true
unfolding memory_rule atomic_rule composite_rule control_rule other_rule
store_plain op h = one_plain op 62 h refl

pub plain_own : (op : ℕ) → is_plain_code op ≡ true → is_own (rule_of op) ≡ true
plain_own op h = (and_parts (is_own (rule_of op)) (not (is_end_code op)) h).0

pub plain_open : (sets : List (ℕ × Bool)) (i : Inst) → is_plain_code i.op ≡ true → is_terminator (class_of sets i) ≡ false
plain_open sets i h =
    let other : is_end_code i.op ≡ false = not-true (is_end_code i.op) (and_parts (is_own (rule_of i.op)) (not (is_end_code i.op)) h).1 in
    false_from_ne_true (is_terminator (class_of sets i)) (λ (is : is_terminator (class_of sets i) ≡ true). both_ways (is_end_code i.op) other (end_code sets i is))

-- ---- the rule of a computation

-- an OpExtInst at which a run stops has a meaning at run time
pub no_debug : (sets : List (ℕ × Bool)) (i : Inst) → i.op ≡ 12 → is_executable (class_of sets i) ≡ true → is_debug sets i ≡ false
no_debug sets i op runs =
    let here : is_executable (unwrap_or (reads 12 (classes (is_debug sets i) (is_local i))) Executable) ≡ true
    = ap (λ (n : ℕ). is_executable (unwrap_or (reads n (classes (is_debug sets i) (is_local i))) Executable)) (sym op) ∙ runs in
    by_debug (is_debug sets i) here
  where
    by_debug : (b : Bool) → is_executable (cond b Line Executable) ≡ true → b ≡ false
    by_debug true h = absurd (cc)
    by_debug false h = refl

module _ (a : Accepted) (i : Inst) (kept : KeepsRule (known a) (alone i) (rule_of i.op)) where
  -- the rule of an opcode
  pub kept_by : (n : ℕ) → i.op ≡ n → KeepsRule (known a) (alone i) (rule_of n)
  kept_by n is = subst (λ (op : ℕ). KeepsRule (known a) (alone i) (rule_of op)) is kept

  lanes_by : is_lane_code i.op ≡ true → KeepsLanes (known a) i
  lanes_by h = lanes_kept (known a) (alone i) (rule_of i.op) (and_parts (is_lanes (rule_of i.op)) (not (is_end_code i.op)) h).0 kept

  pub keeps : (c : Computation) → IsComputed i c → is_executable (class_of (sets_of a.insts) i) ≡ true → Keeps a i c
  unfolding memory_rule atomic_rule composite_rule control_rule other_rule
  keeps Undef h runs = kept_by 1 h
  keeps (Unary x) h runs = (h, lanes_by (unary_code i.op x h))
  keeps Bitcast h runs = (h, kept_by 124 h)
  keeps (Truth x) h runs = (h, lanes_by (vector_code i.op x h))
  keeps (Binary x) h runs = (h, lanes_by (binary_code i.op x h))
  keeps (Field x) h runs = (h, lanes_by (field_code i.op x h))
  keeps (Extended x) h runs = (h, lanes_by (extended_code i.op x h))
  keeps Select h runs = (h, kept_by 169 h)
  keeps (Glsl x) h runs = (h.1, no_debug (sets_of a.insts) i h.0 runs, kept_by 12 h.0)
  keeps ExtractDynamic h runs = kept_by 77 h
  keeps InsertDynamic h runs = kept_by 78 h
  keeps Shuffle h runs = kept_by 79 h
  keeps Construct h runs = kept_by 80 h
  keeps Extract h runs = kept_by 81 h
  keeps Insert h runs = kept_by 82 h
  keeps Copy (inl h) runs = inl (h, kept_by 83 h)
  keeps Copy (inr h) runs = inr (h, kept_by 400 h)

  pub keeps_load : i.op ≡ 61 → KeepsLoad (known a) i
  unfolding memory_rule atomic_rule composite_rule control_rule other_rule
  keeps_load h = kept_by 61 h

  pub keeps_store : i.op ≡ 62 → KeepsStore (known a) i
  unfolding memory_rule atomic_rule composite_rule control_rule other_rule
  keeps_store h = kept_by 62 h
