-- What a bitcast asks of its operand, and the shape of its result.
use Rattle.std.proofs.Common.{◌≡◌, ◌∙◌, ℕ, ◌*◌, ◌<◌, Some, List, [], ◌∷◌, length, map, refl, sym, ap, subst, arith}
use Rattle.std.proofs.lemmas.List.Elements.{All-head}
use Rattle.std.specs.List.{range_with_len}
use Rattle.spv_alu.specs.Integers.{IsWidth}
use Rattle.spv_alu.specs.Vectors.{bitcast_of, component_width}
use Rattle.spv_base.specs.Cell.{IsCell, Cell}
use Rattle.spv_base.specs.declared.instructions.Inst.{Inst}
use Rattle.spv_base.specs.declared.values.Value.{Value}
use Rattle.spv_types.specs.Laws.{AreSound}
use Rattle.spv_types.specs.Rows.{leaves}
use Rattle.spv_typing.specs.declared.lanes.Element.TheVariants.{Int}
use Rattle.spv_typing.specs.declared.rules.Rule.TheVariants.{Bitcast}
use Rattle.spv_typing.specs.Laws.{IsTyped}
use Rattle.spv_typing.specs.Rules.{rule_of}
use Rattle.spv_valid.specs.Below.spv_bodies.specs.Lanes.{KeepsLanes, types_after}
use Rattle.spv_valid.specs.Acceptance.{Accepted}
use Rattle.spv_effects.specs.Bitcasts.{MayCast, bitcast_value}
use Rattle.spv_effects.specs.Lanes.{AreScalars}
use Rattle.spv_effects.proofs.Exports.{bitcast_scalars}
use Rattle.spv_results.specs.Operands.{IsOperand, IsResult, known}
use Rattle.spv_results.specs.Results.{lane_count, lane_width}
use Rattle.spv_results.proofs.LaneTypes.{count_is, lane_type, lanes_fit, operand_lanes, width_is}
use Rattle.spv_results.proofs.RuleLemmas.{typed_by}

bitcast_rule : rule_of 124 ≡ Some Bitcast
unfolding rule_of
bitcast_rule = refl

-- the width of the first lane, where there is one
first_width : (w n : ℕ) (cs : List Cell) → 0 < n → AreScalars w n cs → component_width cs ≡ w
first_width w n [] some s = let none = s.count in absurd (omega arith)
first_width w n (c ∷ cs) some s = (All-head (λ (d : Cell). (d.width ≡ w) × IsCell d) c cs s.fit).0

module _ (a : Accepted) (i : Inst) (x : Value) (sound : AreSound a.types) (first : IsOperand a i 0 x) (is : i.op ≡ 124) (kept : KeepsLanes (known a) i) where
  typed : IsTyped a.types Bitcast i.ty (types_after (known a) i 0)
  typed = typed_by (known a) i Bitcast kept (ap rule_of is ∙ bitcast_rule)

  casting : MayCast (lane_count a.types i.ty) (lane_width a.types i.ty) (leaves x)
  casting =
      let n : ℕ = typed.0 in
      let w : ℕ = typed.1 in
      let m : ℕ = typed.2 in
      let v : ℕ = typed.3 in
      let p = operand_lanes a i 0 m (Int v) x sound first typed.5 in
      let r = lane_type a.types sound i.ty n (Int w) typed.4 in
      let from : component_width (leaves x) ≡ v = first_width v m (leaves x) p.some p.scalars in
      let count : lane_count a.types i.ty ≡ n = count_is a.types i.ty n (Int w) typed.4 in
      let width : lane_width a.types i.ty ≡ w = width_is a.types i.ty n (Int w) typed.4 in
      let same : length (leaves x) * component_width (leaves x) ≡ lane_count a.types i.ty * lane_width a.types i.ty = rw (from, count, width, p.scalars.count) typed.6 in
      record {
        from = subst IsWidth (sym from) p.width;
        to = subst IsWidth (sym width) r.width;
        bits = omega (arith, same);
      }

  pub may_cast : (n w : ℕ) → n ≡ lane_count a.types i.ty → w ≡ lane_width a.types i.ty → MayCast n w (leaves x)
  may_cast n w count width = subst (λ (k : ℕ). MayCast n k (leaves x)) (sym width) (subst (λ (k : ℕ). MayCast k (lane_width a.types i.ty) (leaves x)) (sym count) casting)

  pub bitcast_shape : (v : Value) → v ≡ bitcast_value (lane_count a.types i.ty) (lane_width a.types i.ty) x → IsResult a i v
  bitcast_shape v e =
      let n : ℕ = typed.0 in
      let w : ℕ = typed.1 in
      let count : lane_count a.types i.ty ≡ n = count_is a.types i.ty n (Int w) typed.4 in
      let width : lane_width a.types i.ty ≡ w = width_is a.types i.ty n (Int w) typed.4 in
      let cs : List Cell = map (bitcast_of (leaves x) (lane_width a.types i.ty)) (range_with_len 0 (lane_count a.types i.ty)) in
      let scalars : AreScalars w n cs =
      subst (λ (k : ℕ). AreScalars w k cs) count (subst (λ (k : ℕ). AreScalars k (lane_count a.types i.ty) cs) width (bitcast_scalars (lane_count a.types i.ty) (lane_width a.types i.ty) (leaves x) casting)) in
      subst (IsResult a i) (sym e) (lanes_fit a.types i.ty n (Int w) cs sound typed.4 scalars)
