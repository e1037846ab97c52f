-- The shape of the results of Any and All.
use Rattle.std.proofs.Common.{◌≡◌, ℕ, Some, [], ◌∷◌, refl, sym, subst}
use Rattle.spv_alu.specs.Vectors.{vector_lane, vector_op, vector_opcodes}
use Rattle.spv_alu.specs.declared.vector_op.VectorOp.{VectorOp}
use Rattle.spv_base.specs.Cell.{Cell}
use Rattle.spv_base.specs.declared.instructions.Inst.{Inst}
use Rattle.spv_base.specs.declared.values.Value.{Value, Scalar}
use Rattle.spv_types.specs.Laws.{AreSound}
use Rattle.spv_types.specs.Rows.{leaves}
use Rattle.spv_typing.specs.declared.lanes.Element.TheVariants.{Bool as Boolean}
use Rattle.spv_typing.specs.declared.rules.Rule.TheVariants.{Reduce}
use Rattle.spv_typing.specs.Laws.{IsTyped}
use Rattle.spv_typing.specs.Rules.{rule_of}
use Rattle.spv_valid.specs.Below.spv_bodies.specs.Lanes.{KeepsLanes, types_after}
use Rattle.spv_valid.specs.Acceptance.{Accepted}
use Rattle.spv_effects.specs.Lanes.{of_lanes}
use Rattle.spv_effects.specs.Truths.{truth_value}
use Rattle.spv_effects.proofs.Exports.{truth_scalars}
use Rattle.spv_results.specs.Operands.{IsResult, known}
use Rattle.spv_results.proofs.LaneTypes.{lanes_fit}
use Rattle.spv_results.proofs.RuleLemmas.{typed_by}
use Rattle.spv_base.proofs.Exports.{reads_each}

truth_rule : (op : ℕ) (operation : VectorOp) → vector_op op ≡ Some operation → rule_of op ≡ Some Reduce
unfolding vector_op rule_of
truth_rule op operation h = reads_each (λ (k : ℕ) (o : VectorOp). rule_of k ≡ Some Reduce) op operation vector_opcodes (refl, (refl, tt)) h

pub one_lane : (c : Cell) → of_lanes (c ∷ []) ≡ Scalar c
unfolding of_lanes
one_lane c = refl

pub truth_shape : (a : Accepted) (i : Inst) (x v : Value) (operation : VectorOp) → AreSound a.types → vector_op i.op ≡ Some operation → KeepsLanes (known a) i → v ≡ truth_value operation x → IsResult a i v
truth_shape a i x v operation sound is kept e =
    let typed : IsTyped a.types Reduce i.ty (types_after (known a) i 0) = typed_by (known a) i Reduce kept (truth_rule i.op operation is) in
    let c : Cell = vector_lane operation (leaves x) in
    subst (IsResult a i) (sym e) (subst (IsResult a i) (one_lane c) (lanes_fit a.types i.ty 1 Boolean (c ∷ []) sound typed.2 (truth_scalars operation (leaves x))))
