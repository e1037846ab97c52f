-- What the operations on fields of bits ask of their operands, and the shape of their results.
use Rattle.std.proofs.Common.{◌≡◌, ◌∙◌, ℕ, Some, List, length, refl, sym, ap, subst}
use Rattle.std.specs.Prelude.{◌≢◌}
use Rattle.std.specs.Simd.Lanes.{zip2}
use Rattle.spv_alu.specs.Fields.{field_lane, field_op, field_opcodes}
use Rattle.spv_alu.specs.Integers.{IsWidth}
use Rattle.spv_alu.specs.declared.field_op.FieldOp.{FieldOp}
use Rattle.spv_alu.specs.declared.field_op.FieldOp.TheVariants.{BitFieldInsert, BitFieldSExtract, BitFieldUExtract}
use Rattle.spv_base.specs.Cell.{Cell}
use Rattle.spv_base.specs.declared.instructions.Inst.{Inst}
use Rattle.spv_base.specs.declared.values.Value.{Value}
use Rattle.spv_types.specs.Laws.{AreSound}
use Rattle.spv_types.specs.Rows.{leaves}
use Rattle.spv_types.specs.Types.{Types}
use Rattle.spv_typing.specs.declared.lanes.Element.TheVariants.{Int}
use Rattle.spv_typing.specs.declared.rules.Rule.{Rule}
use Rattle.spv_typing.specs.declared.rules.Rule.TheVariants.{ExtractField, InsertField}
use Rattle.spv_typing.specs.Lanes.{lanes_of}
use Rattle.spv_typing.specs.Laws.{IsTyped, integers}
use Rattle.spv_typing.specs.Rules.{rule_of}
use Rattle.spv_valid.specs.Below.spv_bodies.specs.Lanes.{KeepsLanes, types_after}
use Rattle.spv_valid.specs.Acceptance.{Accepted}
use Rattle.spv_effects.specs.Fields.{HaveFields, field_value}
use Rattle.spv_effects.specs.Lanes.{AreScalars, lane_of}
use Rattle.spv_effects.proofs.Exports.{field_scalars, scalars_are_lanes}
use Rattle.spv_results.specs.Operands.{IsOperand, IsResult, known}
use Rattle.spv_results.proofs.LaneTypes.{lanes_fit, operand_lanes}
use Rattle.spv_results.proofs.RuleLemmas.{typed_by}
use Rattle.spv_base.proofs.Exports.{reads_each}

-- the rule of an operation
abbrev operation_rule : FieldOp → Rule
operation_rule BitFieldInsert = InsertField
operation_rule BitFieldSExtract = ExtractField
operation_rule BitFieldUExtract = ExtractField

field_rule : (op : ℕ) (operation : FieldOp) → field_op op ≡ Some operation → rule_of op ≡ Some (operation_rule operation)
unfolding field_op rule_of
field_rule op operation h = reads_each (λ (k : ℕ) (o : FieldOp). rule_of k ≡ Some (operation_rule o)) op operation field_opcodes (refl, (refl, (refl, tt))) h

extraction_rule : (operation : FieldOp) → operation ≢ BitFieldInsert → operation_rule operation ≡ ExtractField
extraction_rule BitFieldInsert other = absurd (other refl)
extraction_rule BitFieldSExtract other = refl
extraction_rule BitFieldUExtract other = refl

-- bases and what is inserted, lane by lane, for a result of a type, and the lanes of an offset and a count
record HaveField (ts : Types) (ty : ℕ) (bases inserts offsets counts : List Cell) : Type 0 where
  n : ℕ
  w : ℕ
  fits : IsWidth w
  base : AreScalars w n bases
  insert : length inserts ≡ n
  offset : length offsets ≡ 1
  count : length counts ≡ 1
  result : lanes_of ts ty ≡ integers n w

module _ (ts : Types) (ty : ℕ) (bases inserts offsets counts : List Cell) (h : HaveField ts ty bases inserts offsets counts) where
  abbrev having : HaveFields bases inserts h.n
  having = record { width = h.w; fits = h.fits; base = scalars_are_lanes h.w h.n bases h.base; insert = h.insert }

  may_have : (n : ℕ) → n ≡ length bases → HaveFields bases inserts n
  may_have n long = subst (HaveFields bases inserts) (sym (long ∙ h.base.count)) having

shape_of : (a : Accepted) (i : Inst) (operation : FieldOp) (base insert offset count : Value) → AreSound a.types → HaveField a.types i.ty (leaves base) (leaves insert) (leaves offset) (leaves count)
    → IsResult a i (field_value operation base insert offset count)
shape_of a i operation base insert offset count sound h =
    let cs : List Cell = zip2 (λ (b c : Cell). field_lane operation b c (lane_of offset) (lane_of count)) (leaves base) (leaves insert) in
    let may = having a.types i.ty (leaves base) (leaves insert) (leaves offset) (leaves count) h in
    lanes_fit a.types i.ty h.n (Int h.w) cs sound h.result (field_scalars operation (lane_of offset) (lane_of count) h.n (leaves base) (leaves insert) may)

-- ---- an insertion

module _ (a : Accepted) (i : Inst) (base insert offset count : Value) (sound : AreSound a.types) (is_base : IsOperand a i 0 base) (is_insert : IsOperand a i 1 insert)
    (is_offset : IsOperand a i 2 offset) (is_count : IsOperand a i 3 count) (is : field_op i.op ≡ Some BitFieldInsert) (kept : KeepsLanes (known a) i) where
  inserted : HaveField a.types i.ty (leaves base) (leaves insert) (leaves offset) (leaves count)
  inserted =
      let t : IsTyped a.types InsertField i.ty (types_after (known a) i 0) = typed_by (known a) i InsertField kept (field_rule i.op BitFieldInsert is) in
      let p = operand_lanes a i 0 t.0 (Int t.1) base sound is_base t.5 in
      let q = operand_lanes a i 1 t.0 (Int t.1) insert sound is_insert t.6 in
      let r = operand_lanes a i 2 1 (Int t.2) offset sound is_offset t.7 in
      let s = operand_lanes a i 3 1 (Int t.3) count sound is_count t.8 in
      record { n = t.0; w = t.1; fits = p.width; base = p.scalars; insert = q.scalars.count; offset = r.scalars.count; count = s.scalars.count; result = t.4 }

  pub may_insert : (n : ℕ) → n ≡ length (leaves base) → HaveFields (leaves base) (leaves insert) n
  may_insert n long = may_have a.types i.ty (leaves base) (leaves insert) (leaves offset) (leaves count) inserted n long

  pub inserted_at : length (leaves offset) ≡ 1
  inserted_at = inserted.offset

  pub inserted_count : length (leaves count) ≡ 1
  inserted_count = inserted.count

  pub insert_shape : (v : Value) → v ≡ field_value BitFieldInsert base insert offset count → IsResult a i v
  insert_shape v e = subst (IsResult a i) (sym e) (shape_of a i BitFieldInsert base insert offset count sound inserted)

-- ---- an extraction

module _ (a : Accepted) (i : Inst) (operation : FieldOp) (base offset count : Value) (sound : AreSound a.types) (is_base : IsOperand a i 0 base)
    (is_offset : IsOperand a i 1 offset) (is_count : IsOperand a i 2 count) (is : field_op i.op ≡ Some operation) (extracts : operation ≢ BitFieldInsert) (kept : KeepsLanes (known a) i) where
  extracted : HaveField a.types i.ty (leaves base) (leaves base) (leaves offset) (leaves count)
  extracted =
      let rule : rule_of i.op ≡ Some ExtractField = subst (λ (r : Rule). rule_of i.op ≡ Some r) (extraction_rule operation extracts) (field_rule i.op operation is) in
      let t : IsTyped a.types ExtractField i.ty (types_after (known a) i 0) = typed_by (known a) i ExtractField kept rule in
      let p = operand_lanes a i 0 t.0 (Int t.1) base sound is_base t.5 in
      let r = operand_lanes a i 1 1 (Int t.2) offset sound is_offset t.6 in
      let s = operand_lanes a i 2 1 (Int t.3) count sound is_count t.7 in
      record { n = t.0; w = t.1; fits = p.width; base = p.scalars; insert = p.scalars.count; offset = r.scalars.count; count = s.scalars.count; result = t.4 }

  -- the base is passed twice, the second time as a copy
  pub may_extract : (copy : Value) (n : ℕ) → copy ≡ base → n ≡ length (leaves base) → HaveFields (leaves base) (leaves copy) n
  may_extract copy n same long =
      subst (λ (v : Value). HaveFields (leaves base) (leaves v) n) (sym same) (may_have a.types i.ty (leaves base) (leaves base) (leaves offset) (leaves count) extracted n long)

  pub extracted_at : length (leaves offset) ≡ 1
  extracted_at = extracted.offset

  pub extracted_count : length (leaves count) ≡ 1
  extracted_count = extracted.count

  pub extract_shape : (copy v : Value) → copy ≡ base → v ≡ field_value operation base copy offset count → IsResult a i v
  extract_shape copy v same e =
      subst (IsResult a i) (sym (e ∙ ap (λ (u : Value). field_value operation base u offset count) same)) (shape_of a i operation base base offset count sound extracted)
