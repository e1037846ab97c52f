-- What the operations that give a struct of two ask of their operands, and the shape of their results.
use Rattle.std.proofs.Common.{◌≡◌, ℕ, ◌+◌, ◌*◌, Bool, Some, List, [], ◌∷◌, length, refl, sym, subst, arith}
use Rattle.std.specs.List.{AllZip}
use Rattle.spv_alu.specs.Extended.{extended_op, extended_opcodes}
use Rattle.spv_alu.specs.declared.extended_op.ExtendedOp.{ExtendedOp}
use Rattle.spv_base.specs.Cell.{Cell}
use Rattle.spv_base.specs.declared.instructions.Inst.{Inst}
use Rattle.spv_base.specs.declared.values.Value.{Value, List as Many}
use Rattle.spv_base.proofs.Exports.{out_many, reads_each}
use Rattle.spv_types.specs.declared.forms.Form.TheVariants.{Struct}
use Rattle.spv_types.specs.declared.forms.Member.{Member}
use Rattle.spv_types.specs.Laws.{AreSound}
use Rattle.spv_types.specs.Rows.{leaves, no_roots}
use Rattle.spv_types.specs.Shapes.{HasShape, shape_step}
use Rattle.spv_types.specs.Types.{Types, form_of}
use Rattle.spv_types.proofs.Exports.{shapes_are_by_forms}
use Rattle.spv_typing.specs.declared.lanes.Element.TheVariants.{Int}
use Rattle.spv_typing.specs.declared.rules.Rule.TheVariants.{Extended}
use Rattle.spv_typing.specs.Laws.{IsTyped}
use Rattle.spv_typing.specs.Rules.{rule_of}
use Rattle.spv_valid.specs.Below.spv_bodies.specs.Lanes.{KeepsLanes, types_after}
use Rattle.spv_valid.specs.Acceptance.{Accepted}
use Rattle.spv_effects.specs.ExtendedOps.{MayExtend, extended_value, high_lanes, low_lanes}
use Rattle.spv_effects.specs.Lanes.{of_lanes}
use Rattle.spv_effects.proofs.Exports.{high_scalars, low_scalars, scalars_are_lanes}
use Rattle.spv_results.specs.Operands.{IsOperand, IsResult, known}
use Rattle.spv_results.proofs.LaneTypes.{lane_type, lanes_fit, scalars_of}
use Rattle.spv_results.proofs.RuleLemmas.{typed_by}

extended_rule : (op : ℕ) (operation : ExtendedOp) → extended_op op ≡ Some operation → rule_of op ≡ Some Extended
unfolding extended_op rule_of
extended_rule op operation h = reads_each (λ (k : ℕ) (o : ExtendedOp). rule_of k ≡ Some Extended) op operation extended_opcodes (refl, (refl, (refl, (refl, tt)))) h

-- two values have the shape of a struct of two members of their type
pair_shape : (ts : Types) (ty t : ℕ) (a b : Member) (block : Bool) (v u : Value) → AreSound ts → form_of ts ty ≡ Some (Struct (a ∷ b ∷ []) block) → a.ty ≡ t → b.ty ≡ t
    → HasShape ts no_roots t v → HasShape ts no_roots t u → HasShape ts no_roots ty (Many (v ∷ u ∷ []))
pair_shape ts ty t a b block v u sound is first second h k =
    let one : HasShape ts no_roots a.ty v = subst (λ (n : ℕ). HasShape ts no_roots n v) (sym first) h in
    let two : HasShape ts no_roots b.ty u = subst (λ (n : ℕ). HasShape ts no_roots n u) (sym second) k in
    let both : AllZip (λ (m : Member). HasShape ts no_roots m.ty) (a ∷ b ∷ []) (v ∷ u ∷ []) = (one, (two, tt)) in
    let step : shape_step ts no_roots (HasShape ts no_roots) (Struct (a ∷ b ∷ []) block) (Many (v ∷ u ∷ [])) = rw (out_many (v ∷ u ∷ [])) both in
    (shapes_are_by_forms ts no_roots sound ty (Struct (a ∷ b ∷ []) block) (Many (v ∷ u ∷ [])) is).1 step

module _ (a : Accepted) (i : Inst) (operation : ExtendedOp) (x y : Value) (sound : AreSound a.types) (first : IsOperand a i 0 x) (second : IsOperand a i 1 y)
    (is : extended_op i.op ≡ Some operation) (kept : KeepsLanes (known a) i) where
  typed : IsTyped a.types Extended i.ty (types_after (known a) i 0)
  typed = typed_by (known a) i Extended kept (extended_rule i.op operation is)

  abbrev extending : MayExtend (leaves x) (leaves y) (typed.1 + typed.1)
  extending =
      let p = scalars_of a.types typed.0 typed.1 (Int typed.2) x sound typed.7 (first typed.0 typed.6) in
      let q = scalars_of a.types typed.0 typed.1 (Int typed.2) y sound typed.7 (second typed.0 typed.8) in
      record {
        width = typed.2;
        half = typed.1;
        fits = (lane_type a.types sound typed.0 typed.1 (Int typed.2) typed.7).width;
        first = scalars_are_lanes typed.2 typed.1 (leaves x) p;
        second = scalars_are_lanes typed.2 typed.1 (leaves y) q;
        twice = refl;
      }

  pub may_extend : (n : ℕ) → n ≡ 2 * length (leaves x) → MayExtend (leaves x) (leaves y) n
  may_extend n long =
      let count : length (leaves x) ≡ typed.1 = (scalars_of a.types typed.0 typed.1 (Int typed.2) x sound typed.7 (first typed.0 typed.6)).count in
      let twice : typed.1 + typed.1 ≡ n = omega arith in
      subst (MayExtend (leaves x) (leaves y)) twice extending

  value_shape : IsResult a i (extended_value operation x y)
  unfolding extended_value
  value_shape =
      let low : List Cell = low_lanes operation (leaves x) (leaves y) in
      let high : List Cell = high_lanes operation (leaves x) (leaves y) in
      let n : ℕ = typed.1 + typed.1 in
      pair_shape a.types i.ty typed.0 typed.3 typed.4 typed.5 (of_lanes low) (of_lanes high) sound typed.9 typed.10 typed.11
      (lanes_fit a.types typed.0 typed.1 (Int typed.2) low sound typed.7 (low_scalars operation n (leaves x) (leaves y) extending))
      (lanes_fit a.types typed.0 typed.1 (Int typed.2) high sound typed.7 (high_scalars operation n (leaves x) (leaves y) extending))

  pub extended_shape : (v : Value) → v ≡ extended_value operation x y → IsResult a i v
  extended_shape v e = subst (IsResult a i) (sym e) value_shape
