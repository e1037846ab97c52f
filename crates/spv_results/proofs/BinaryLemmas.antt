-- What the binary operations ask of their operands, and the shape of their results.
use Rattle.std.proofs.Common.{◌≡◌, ◌∙◌, ℕ, Some, List, length, refl, sym, subst}
use Rattle.std.specs.Simd.Lanes.{zip2}
use Rattle.spv_alu.specs.Binary.{BinaryRow, BinaryWidths, arithmetic, binary_lane, binary_op, binary_opcodes, binary_row, binary_width, logical, shift, signed_comparison, signed_division, unsigned_comparison, unsigned_division}
use Rattle.spv_alu.specs.Integers.{IsWidth}
use Rattle.spv_alu.specs.declared.binary_op.BinaryOp.{BinaryOp}
use Rattle.spv_base.specs.Cell.{Cell}
use Rattle.spv_base.specs.declared.instructions.Inst.{Inst}
use Rattle.spv_base.specs.declared.values.Value.{Value}
use Rattle.spv_types.specs.Laws.{AreSound}
use Rattle.spv_types.specs.Rows.{leaves}
use Rattle.spv_types.specs.Types.{Types}
use Rattle.spv_typing.specs.declared.lanes.Element.{Element}
use Rattle.spv_typing.specs.declared.lanes.Element.TheVariants.{Bool as Boolean, Int}
use Rattle.spv_typing.specs.declared.rules.Rule.{Rule}
use Rattle.spv_typing.specs.declared.rules.Rule.TheVariants.{Booleans, Compare, Integers, Shift}
use Rattle.spv_typing.specs.Lanes.{lanes_of, repeated, width_of}
use Rattle.spv_typing.specs.Laws.{IsTyped}
use Rattle.spv_typing.specs.Rules.{rule_of}
use Rattle.spv_valid.specs.Below.spv_bodies.specs.Lanes.{KeepsLanes, types_after}
use Rattle.spv_valid.specs.Acceptance.{Accepted}
use Rattle.spv_effects.specs.BinaryOps.{MayMeet, binary_value}
use Rattle.spv_effects.specs.Lanes.{AreScalars}
use Rattle.spv_effects.proofs.Exports.{binary_scalars, scalars_are_lanes}
use Rattle.spv_results.specs.Operands.{IsOperand, IsResult, known}
use Rattle.spv_results.proofs.LaneTypes.{lanes_fit, operand_lanes}
use Rattle.spv_results.proofs.RuleLemmas.{typed_by}
use Rattle.spv_base.proofs.Exports.{reads_each}

-- the rule of operations of a kind
abbrev row_rule : BinaryRow → Rule
row_rule (arithmetic f) = Integers
row_rule (unsigned_division f) = Integers
row_rule (signed_division f) = Integers
row_rule (logical f) = Booleans
row_rule (unsigned_comparison f) = Compare
row_rule (signed_comparison f) = Compare
row_rule (shift f) = Shift

binary_rule : (op : ℕ) (operation : BinaryOp) → binary_op op ≡ Some operation → rule_of op ≡ Some (row_rule (binary_row operation))
unfolding binary_op binary_row rule_of
binary_rule op operation h =
    reads_each (λ (k : ℕ) (o : BinaryOp). rule_of k ≡ Some (row_rule (binary_row o))) op operation binary_opcodes
    (refl, (refl, (refl, (refl, (refl, (refl, (refl, (refl, (refl, (refl, (refl, (refl, (refl, (refl, (refl, (refl, (refl, (refl, (refl, (refl, (refl, (refl, (refl, (refl, (refl, (refl, (refl, (refl, tt)))))))))))))))))))))))))))) h

-- two operands of n lanes each, for a result of as many
record ArePaired (ts : Types) (ty : ℕ) (cs ds : List Cell) (v w : ℕ) (e : Element) : Type 0 where
  n : ℕ
  first : AreScalars v n cs
  second : AreScalars w n ds
  result : lanes_of ts ty ≡ Some (repeated n e)

-- the same, where their widths are those that an operation of a kind takes, and the result has the width that it gives
record DoMeet (ts : Types) (row : BinaryRow) (ty : ℕ) (cs ds : List Cell) : Type 0 where
  v : ℕ
  w : ℕ
  e : Element
  fits : BinaryWidths row v w
  pair : ArePaired ts ty cs ds v w e
  width : binary_width row v ≡ width_of e

module _ (a : Accepted) (i : Inst) (x y : Value) (sound : AreSound a.types) (first : IsOperand a i 0 x) (second : IsOperand a i 1 y) where
  abbrev Typed : Rule → Type 0
  Typed rule = IsTyped a.types rule i.ty (types_after (known a) i 0)

  abbrev Paired : ℕ → ℕ → Element → Type 0
  Paired v w e = ArePaired a.types i.ty (leaves x) (leaves y) v w e

  integers : Typed Integers → (w : ℕ) × IsWidth w × Paired w w (Int w)
  integers t =
      let p = operand_lanes a i 0 t.0 (Int t.1) x sound first t.3 in
      let q = operand_lanes a i 1 t.0 (Int t.1) y sound second t.4 in
      (t.1, p.width, record { n = t.0; first = p.scalars; second = q.scalars; result = t.2 })

  compared : Typed Compare → (w : ℕ) × IsWidth w × Paired w w Boolean
  compared t =
      let p = operand_lanes a i 0 t.0 (Int t.1) x sound first t.3 in
      let q = operand_lanes a i 1 t.0 (Int t.1) y sound second t.4 in
      (t.1, p.width, record { n = t.0; first = p.scalars; second = q.scalars; result = t.2 })

  booleans : Typed Booleans → Paired 1 1 Boolean
  booleans t =
      let p = operand_lanes a i 0 t.0 Boolean x sound first t.2 in
      let q = operand_lanes a i 1 t.0 Boolean y sound second t.3 in
      record { n = t.0; first = p.scalars; second = q.scalars; result = t.1 }

  shifted : Typed Shift → (v : ℕ) × (w : ℕ) × IsWidth v × IsWidth w × Paired v w (Int v)
  shifted t =
      let p = operand_lanes a i 0 t.0 (Int t.1) x sound first t.4 in
      let q = operand_lanes a i 1 t.0 (Int t.2) y sound second t.5 in
      (t.1, t.2, p.width, q.width, record { n = t.0; first = p.scalars; second = q.scalars; result = t.3 })

  by_row : (row : BinaryRow) → Typed (row_rule row) → DoMeet a.types row i.ty (leaves x) (leaves y)
  by_row (arithmetic f) t = let p = integers t in record { v = p.0; w = p.0; e = Int p.0; fits = (p.1, refl); pair = p.2; width = refl }
  by_row (unsigned_division f) t = let p = integers t in record { v = p.0; w = p.0; e = Int p.0; fits = (p.1, refl); pair = p.2; width = refl }
  by_row (signed_division f) t = let p = integers t in record { v = p.0; w = p.0; e = Int p.0; fits = (p.1, refl); pair = p.2; width = refl }
  by_row (logical f) t = record { v = 1; w = 1; e = Boolean; fits = (refl, refl); pair = booleans t; width = refl }
  by_row (unsigned_comparison f) t = let p = compared t in record { v = p.0; w = p.0; e = Boolean; fits = (p.1, refl); pair = p.2; width = refl }
  by_row (signed_comparison f) t = let p = compared t in record { v = p.0; w = p.0; e = Boolean; fits = (p.1, refl); pair = p.2; width = refl }
  by_row (shift f) t = let p = shifted t in record { v = p.0; w = p.1; e = Int p.0; fits = (p.2, p.3); pair = p.4; width = refl }

  module _ (operation : BinaryOp) (is : binary_op i.op ≡ Some operation) (kept : KeepsLanes (known a) i) where
    met : DoMeet a.types (binary_row operation) i.ty (leaves x) (leaves y)
    met = by_row (binary_row operation) (typed_by (known a) i (row_rule (binary_row operation)) kept (binary_rule i.op operation is))

    abbrev meeting : MayMeet operation (leaves x) (leaves y) met.pair.n
    meeting = record {
      v = met.v;
      w = met.w;
      fits = met.fits;
      first = scalars_are_lanes met.v met.pair.n (leaves x) met.pair.first;
      second = scalars_are_lanes met.w met.pair.n (leaves y) met.pair.second;
    }

    pub may_meet : (n : ℕ) → n ≡ length (leaves x) → MayMeet operation (leaves x) (leaves y) n
    may_meet n long = subst (MayMeet operation (leaves x) (leaves y)) (sym (long ∙ met.pair.first.count)) meeting

    pub binary_shape : (v : Value) → v ≡ binary_value operation x y → IsResult a i v
    binary_shape v e =
        let cs : List Cell = zip2 (binary_lane operation) (leaves x) (leaves y) in
        let scalars : AreScalars (width_of met.e) met.pair.n cs = subst (λ (w : ℕ). AreScalars w met.pair.n cs) met.width (binary_scalars operation met.pair.n (leaves x) (leaves y) meeting) in
        subst (IsResult a i) (sym e) (lanes_fit a.types i.ty met.pair.n met.e cs sound met.pair.result scalars)
