-- What the unary operations ask of their operand, and the shape of their results.
use Rattle.std.proofs.Common.{◌≡◌, ◌∙◌, ℕ, Some, List, length, map, refl, sym, subst}
use Rattle.spv_alu.specs.Unary.{UnaryRow, UnaryWidths, arithmetic, conversion, logical, unary_lane, unary_op, unary_opcodes, unary_row}
use Rattle.spv_alu.specs.declared.unary_op.UnaryOp.{UnaryOp}
use Rattle.spv_base.specs.Cell.{Cell}
use Rattle.spv_base.specs.declared.instructions.Inst.{Inst}
use Rattle.spv_base.specs.declared.values.Value.{Value}
use Rattle.spv_types.specs.Laws.{AreSound}
use Rattle.spv_types.specs.Rows.{leaves}
use Rattle.spv_types.specs.Types.{Types}
use Rattle.spv_typing.specs.declared.lanes.Element.{Element}
use Rattle.spv_typing.specs.declared.lanes.Element.TheVariants.{Bool as Boolean, Int}
use Rattle.spv_typing.specs.declared.rules.Rule.{Rule}
use Rattle.spv_typing.specs.declared.rules.Rule.TheVariants.{Boolean as OneBoolean, Convert, Integer}
use Rattle.spv_typing.specs.Lanes.{lanes_of, repeated, width_of}
use Rattle.spv_typing.specs.Laws.{IsTyped}
use Rattle.spv_typing.specs.Rules.{rule_of}
use Rattle.spv_valid.specs.Below.spv_bodies.specs.Lanes.{KeepsLanes, types_after}
use Rattle.spv_valid.specs.Acceptance.{Accepted}
use Rattle.spv_effects.specs.Lanes.{AreScalars}
use Rattle.spv_effects.specs.UnaryOps.{MayTurn, unary_value}
use Rattle.spv_effects.proofs.Exports.{unary_scalars, scalars_are_lanes}
use Rattle.spv_results.specs.Operands.{IsOperand, IsResult, known}
use Rattle.spv_results.specs.Results.{lane_width}
use Rattle.spv_results.proofs.LaneTypes.{lane_type, lanes_fit, operand_lanes, width_is}
use Rattle.spv_results.proofs.RuleLemmas.{typed_by}
use Rattle.spv_base.proofs.Exports.{reads_each}

-- the rule of operations of a kind
abbrev row_rule : UnaryRow → Rule
row_rule (conversion f) = Convert
row_rule (arithmetic f) = Integer
row_rule (logical f) = OneBoolean

unary_rule : (op : ℕ) (operation : UnaryOp) → unary_op op ≡ Some operation → rule_of op ≡ Some (row_rule (unary_row operation))
unfolding unary_op unary_row rule_of
unary_rule op operation h =
    reads_each (λ (k : ℕ) (o : UnaryOp). rule_of k ≡ Some (row_rule (unary_row o))) op operation unary_opcodes (refl, (refl, (refl, (refl, (refl, (refl, (refl, tt))))))) h

-- an operand of n lanes of a width that an operation of a kind takes, for a result of as many
record DoTurn (ts : Types) (row : UnaryRow) (ty : ℕ) (cs : List Cell) : Type 0 where
  n : ℕ
  from : ℕ
  e : Element
  fits : UnaryWidths row from (width_of e)
  operand : AreScalars from n cs
  result : lanes_of ts ty ≡ Some (repeated n e)

module _ (a : Accepted) (i : Inst) (x : Value) (sound : AreSound a.types) (first : IsOperand a i 0 x) where
  by_row : (row : UnaryRow) → IsTyped a.types (row_rule row) i.ty (types_after (known a) i 0) → DoTurn a.types row i.ty (leaves x)
  by_row (conversion f) t =
      let p = operand_lanes a i 0 t.0 (Int t.2) x sound first t.4 in
      let r = lane_type a.types sound i.ty t.0 (Int t.1) t.3 in
      record { n = t.0; from = t.2; e = Int t.1; fits = (p.width, r.width); operand = p.scalars; result = t.3 }
  by_row (arithmetic f) t =
      let p = operand_lanes a i 0 t.0 (Int t.1) x sound first t.3 in
      record { n = t.0; from = t.1; e = Int t.1; fits = (p.width, refl); operand = p.scalars; result = t.2 }
  by_row (logical f) t =
      let p = operand_lanes a i 0 t.0 Boolean x sound first t.2 in
      record { n = t.0; from = 1; e = Boolean; fits = (refl, refl); operand = p.scalars; result = t.1 }

  module _ (operation : UnaryOp) (is : unary_op i.op ≡ Some operation) (kept : KeepsLanes (known a) i) where
    turned : DoTurn a.types (unary_row operation) i.ty (leaves x)
    turned = by_row (unary_row operation) (typed_by (known a) i (row_rule (unary_row operation)) kept (unary_rule i.op operation is))

    width : lane_width a.types i.ty ≡ width_of turned.e
    width = width_is a.types i.ty turned.n turned.e turned.result

    turning : MayTurn operation (lane_width a.types i.ty) (leaves x) turned.n
    turning = record {
      from = turned.from;
      fits = subst (UnaryWidths (unary_row operation) turned.from) (sym width) turned.fits;
      operand = scalars_are_lanes turned.from turned.n (leaves x) turned.operand;
    }

    pub may_turn : (n w : ℕ) → n ≡ length (leaves x) → w ≡ lane_width a.types i.ty → MayTurn operation w (leaves x) n
    may_turn n w long same =
        subst (λ (k : ℕ). MayTurn operation k (leaves x) n) (sym same) (subst (MayTurn operation (lane_width a.types i.ty) (leaves x)) (sym (long ∙ turned.operand.count)) turning)

    pub unary_shape : (v : Value) → v ≡ unary_value operation (lane_width a.types i.ty) x → IsResult a i v
    unary_shape v e =
        let cs : List Cell = map (λ (c : Cell). unary_lane operation c (lane_width a.types i.ty)) (leaves x) in
        let scalars : AreScalars (width_of turned.e) turned.n cs = subst (λ (w : ℕ). AreScalars w turned.n cs) width (unary_scalars operation (lane_width a.types i.ty) turned.n (leaves x) turning) in
        subst (IsResult a i) (sym e) (lanes_fit a.types i.ty turned.n turned.e cs sound turned.result scalars)
