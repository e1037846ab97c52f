-- The operands of an instruction that computes are data, by the rule that it keeps.
use Rattle.std.proofs.Common.{◌≡◌, ◌≢◌, ◌∙◌, inl, inr, ℕ, zero, suc, Bool, true, false, length, Option, Some, None, refl, sym, ap, subst, arith}
use Rattle.std.specs.Prelude.{◌==◌, not}
use Rattle.std.specs.Option.{option_map_or}
use Rattle.std.proofs.lemmas.Bool.{both_ways, eqb-true}
use Rattle.spv_base.specs.declared.instructions.Inst.{Inst}
use Rattle.spv_alu.specs.Binary.{binary_op, binary_opcodes}
use Rattle.spv_alu.specs.Extended.{extended_op, extended_opcodes}
use Rattle.spv_alu.specs.Fields.{field_op, field_opcodes}
use Rattle.spv_alu.specs.Unary.{unary_op, unary_opcodes}
use Rattle.spv_alu.specs.Vectors.{vector_op, vector_opcodes}
use Rattle.spv_alu.specs.declared.binary_op.BinaryOp.{BinaryOp}
use Rattle.spv_alu.specs.declared.extended_op.ExtendedOp.{ExtendedOp}
use Rattle.spv_alu.specs.declared.field_op.FieldOp.{FieldOp}
use Rattle.spv_alu.specs.declared.field_op.FieldOp.TheVariants.{BitFieldInsert, BitFieldSExtract, BitFieldUExtract}
use Rattle.spv_alu.specs.declared.unary_op.UnaryOp.{UnaryOp}
use Rattle.spv_alu.specs.declared.vector_op.VectorOp.{VectorOp}
use Rattle.spv_index.specs.Classes.{is_debug}
use Rattle.spv_types.specs.declared.forms.Form.{Form}
use Rattle.spv_types.specs.declared.forms.Form.TheVariants.{Void, Bool as Boolean, Int, Vector, Array, Runtime, Struct, Pointer, Function}
use Rattle.spv_types.specs.Queries.{is_pointer}
use Rattle.spv_types.specs.Types.{Types, form_of}
use Rattle.spv_typing.specs.declared.lanes.Lanes.{Lanes}
use Rattle.spv_typing.specs.declared.rules.Rule.{Rule}
use Rattle.spv_typing.specs.declared.rules.Rule.TheVariants.{Convert, Bitcast, Integer, Integers, Clamp, Shift, Boolean as OneBoolean, Booleans, Reduce, Compare, Extended, Select, InsertField, ExtractField}
use Rattle.spv_typing.specs.Fitting.{is_selectable}
use Rattle.spv_typing.specs.Lanes.{form_lanes, lanes_at, lanes_of}
use Rattle.spv_typing.specs.Laws.{IsCondition, IsTyped}
use Rattle.spv_typing.specs.Rules.{rule_count, rule_of}
use Rattle.spv_bodies.specs.Context.{Known}
use Rattle.spv_bodies.specs.Lanes.{KeepsExtended, KeepsLanes, count_of, types_after}
use Rattle.spv_sites.specs.Sites.{is_data}
use Rattle.spv_sites.proofs.Exports.{key_passes}
use Rattle.spv_base.proofs.Exports.{reads_each}

-- an operand of a type that is no pointer type
pub typed_data : (ts : Types) (o : Option ℕ) (ty : ℕ) → o ≡ Some ty → not (is_pointer (form_of ts ty)) ≡ true → is_data ts o ≡ true
typed_data ts o ty is plain = ap (is_data ts) is ∙ plain

-- ---- types with lanes

form_plain : (ts : Types) (o : Option Form) (l : Lanes) → form_lanes ts o ≡ Some l → not (is_pointer o) ≡ true
form_plain = grind arith

lanes_data : (ts : Types) (o : Option ℕ) (l : Lanes) → lanes_at ts o ≡ Some l → is_data ts o ≡ true
unfolding lanes_of
lanes_data ts None l h = absurd (cc)
lanes_data ts (Some ty) l h = form_plain ts (form_of ts ty) l h

pub selectable_plain : (o : Option Form) → is_selectable o ≡ true → not (is_pointer o) ≡ true
selectable_plain = grind arith

pub selected_data : (ts : Types) (o : Option ℕ) (ty : ℕ) → o ≡ Some ty → is_selectable (form_of ts ty) ≡ true → is_data ts o ≡ true
selected_data ts o ty is selectable = typed_data ts o ty is (selectable_plain (form_of ts ty) selectable)

-- ---- lane-wise rules

-- how many operands a rule speaks of
abbrev pub operand_number : Rule → ℕ
operand_number Convert = 1
operand_number Bitcast = 1
operand_number Integer = 1
operand_number Integers = 2
operand_number Clamp = 3
operand_number Shift = 2
operand_number OneBoolean = 1
operand_number Booleans = 2
operand_number Reduce = 1
operand_number Compare = 2
operand_number Extended = 2
operand_number Select = 3
operand_number InsertField = 4
operand_number ExtractField = 3

-- the first so many operands are data
abbrev pub AreData : Types → (ℕ → Option ℕ) → ℕ → Type 0
AreData ts ty zero = Unit {0}
AreData ts ty (suc n) = AreData ts ty n × (is_data ts (ty n) ≡ true)

condition_data : (ts : Types) (result : Option Lanes) (o : Option ℕ) → IsCondition result (lanes_at ts o) → is_data ts o ≡ true
condition_data ts result o (inl one) = lanes_data ts o _ one
condition_data ts result o (inr several) = lanes_data ts o _ several.3

rule_data : (ts : Types) (rule : Rule) (result : ℕ) (ty : ℕ → Option ℕ) → IsTyped ts rule result ty → AreData ts ty (operand_number rule)
rule_data ts Convert result ty h = (tt, lanes_data ts (ty 0) _ h.4)
rule_data ts Bitcast result ty h = (tt, lanes_data ts (ty 0) _ h.5)
rule_data ts Integer result ty h = (tt, lanes_data ts (ty 0) _ h.3)
rule_data ts Integers result ty h = ((tt, lanes_data ts (ty 0) _ h.3), lanes_data ts (ty 1) _ h.4)
rule_data ts Clamp result ty h = (((tt, lanes_data ts (ty 0) _ h.3), lanes_data ts (ty 1) _ h.4), lanes_data ts (ty 2) _ h.5)
rule_data ts Shift result ty h = ((tt, lanes_data ts (ty 0) _ h.4), lanes_data ts (ty 1) _ h.5)
rule_data ts OneBoolean result ty h = (tt, lanes_data ts (ty 0) _ h.2)
rule_data ts Booleans result ty h = ((tt, lanes_data ts (ty 0) _ h.2), lanes_data ts (ty 1) _ h.3)
rule_data ts Reduce result ty h = (tt, lanes_data ts (ty 0) _ h.3)
rule_data ts Compare result ty h = ((tt, lanes_data ts (ty 0) _ h.3), lanes_data ts (ty 1) _ h.4)
rule_data ts Extended result ty h =
    let first : lanes_at ts (ty 0) ≡ _ = ap (lanes_at ts) h.6 ∙ h.7 in
    let second : lanes_at ts (ty 1) ≡ _ = ap (lanes_at ts) h.8 ∙ h.7 in
    ((tt, lanes_data ts (ty 0) _ first), lanes_data ts (ty 1) _ second)
rule_data ts Select result ty h =
    (((tt, condition_data ts (lanes_of ts result) (ty 0) h.3), selected_data ts (ty 1) result h.1 h.0), selected_data ts (ty 2) result h.2 h.0)
rule_data ts InsertField result ty h =
    ((((tt, lanes_data ts (ty 0) _ h.5), lanes_data ts (ty 1) _ h.6), lanes_data ts (ty 2) _ h.7), lanes_data ts (ty 3) _ h.8)
rule_data ts ExtractField result ty h = (((tt, lanes_data ts (ty 0) _ h.5), lanes_data ts (ty 1) _ h.6), lanes_data ts (ty 2) _ h.7)

-- the rule of an opcode speaks of so many operands
abbrev pub has_operands : ℕ → ℕ → Bool
has_operands n op = option_map_or (λ (r : Rule). operand_number r == n) (rule_of op) false

pub lane_operands : (k : Known) (i : Inst) (n : ℕ) → has_operands n i.op ≡ true → KeepsLanes k i → AreData k.types (types_after k i 0) n
lane_operands k i n has kept =
    let many : (operand_number kept.0 == n) ≡ true = sym (ap (λ (o : Option Rule). option_map_or (λ (r : Rule). operand_number r == n) o false) kept.1) ∙ has in
    subst (AreData k.types (types_after k i 0)) (eqb-true (operand_number kept.0) n many) (rule_data k.types kept.0 i.ty (types_after k i 0) kept.2)

-- an instruction of GLSL.std.450 has as many operands as its rule speaks of
counted : (r : Rule) (n : ℕ) → rule_count r ≡ Some n → operand_number r ≡ n
counted = grind arith

pub extended_operands : (k : Known) (i : Inst) (n : ℕ) → is_debug k.sets i ≡ false → count_of i ≡ n → KeepsExtended k i → AreData k.types (types_after k i 2) n
extended_operands k i n none count (inl debug) = absurd (both_ways (is_debug k.sets i) none debug)
extended_operands k i n none count (inr kept) =
    subst (AreData k.types (types_after k i 2)) (counted kept.2.0 (count_of i) kept.2.2 ∙ count) (rule_data k.types kept.2.0 i.ty (types_after k i 2) kept.2.3)

-- ---- the tables

pub unary_has : (op : ℕ) (x : UnaryOp) → unary_op op ≡ Some x → has_operands 1 op ≡ true
unfolding unary_op rule_of
unary_has op x h = key_passes (has_operands 1) op x unary_opcodes refl h

pub binary_has : (op : ℕ) (x : BinaryOp) → binary_op op ≡ Some x → has_operands 2 op ≡ true
unfolding binary_op rule_of
binary_has op x h = key_passes (has_operands 2) op x binary_opcodes refl h

pub extended_has : (op : ℕ) (x : ExtendedOp) → extended_op op ≡ Some x → has_operands 2 op ≡ true
unfolding extended_op rule_of
extended_has op x h = key_passes (has_operands 2) op x extended_opcodes refl h

pub vector_has : (op : ℕ) (x : VectorOp) → vector_op op ≡ Some x → has_operands 1 op ≡ true
unfolding vector_op rule_of
vector_has op x h = key_passes (has_operands 1) op x vector_opcodes refl h

-- OpBitFieldInsert has four operands, and the extractions three
abbrev pub field_number : FieldOp → ℕ
field_number BitFieldInsert = 4
field_number BitFieldSExtract = 3
field_number BitFieldUExtract = 3

pub field_has : (op : ℕ) (x : FieldOp) → field_op op ≡ Some x → has_operands (field_number x) op ≡ true
unfolding field_op rule_of
field_has op x h = reads_each (λ (k : ℕ) (y : FieldOp). has_operands (field_number y) k ≡ true) op x field_opcodes (refl, (refl, (refl, tt))) h

pub insert_has : (op : ℕ) → field_op op ≡ Some BitFieldInsert → has_operands 4 op ≡ true
insert_has op h = field_has op BitFieldInsert h

extract_number : (x : FieldOp) → x ≢ BitFieldInsert → field_number x ≡ 3
extract_number BitFieldInsert other = absurd (other refl)
extract_number BitFieldSExtract other = refl
extract_number BitFieldUExtract other = refl

pub extract_has : (op : ℕ) (x : FieldOp) → x ≢ BitFieldInsert → field_op op ≡ Some x → has_operands 3 op ≡ true
extract_has op x other h = ap (λ (n : ℕ). has_operands n op) (sym (extract_number x other)) ∙ field_has op x h

pub one_has : (op n number : ℕ) → op ≡ n → has_operands number n ≡ true → has_operands number op ≡ true
one_has op n number is has = ap (has_operands number) is ∙ has

pub bitcast_has : has_operands 1 124 ≡ true
unfolding rule_of
bitcast_has = refl

pub select_has : has_operands 3 169 ≡ true
unfolding rule_of
select_has = refl
