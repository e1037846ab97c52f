-- What a selection asks of its operands, and the shape of its result.
use Rattle.std.proofs.Common.{◌≡◌, ◌∙◌, ◌⊎◌, inl, inr, ℕ, false, Some, List, length, refl, sym, ap, subst}
use Rattle.spv_base.specs.Cell.{Cell}
use Rattle.spv_base.specs.declared.instructions.Inst.{Inst}
use Rattle.spv_base.specs.declared.values.Value.{Value}
use Rattle.spv_alu.specs.Select.{selected}
use Rattle.spv_types.specs.Laws.{AreSound}
use Rattle.spv_types.specs.Rows.{leaves}
use Rattle.spv_types.specs.Rules.{has_runtime}
use Rattle.spv_typing.specs.declared.lanes.Element.TheVariants.{Bool as Boolean}
use Rattle.spv_typing.specs.declared.rules.Rule.TheVariants.{Select}
use Rattle.spv_typing.specs.Lanes.{lanes_at, lanes_of}
use Rattle.spv_typing.specs.Laws.{IsCondition, IsTyped}
use Rattle.spv_typing.specs.Rules.{rule_of}
use Rattle.spv_valid.specs.Below.spv_bodies.specs.Context.{type_at}
use Rattle.spv_valid.specs.Below.spv_bodies.specs.Lanes.{KeepsLanes, types_after}
use Rattle.spv_valid.specs.Acceptance.{Accepted}
use Rattle.spv_effects.specs.Selects.{MaySelect, select_value}
use Rattle.spv_effects.proofs.Exports.{form_keeps_shape, selected_widths}
use Rattle.spv_results.specs.Operands.{IsOperand, IsResult, known}
use Rattle.spv_results.proofs.AlikeLemmas.{leaves_alike, leaves_fit}
use Rattle.spv_results.proofs.LaneTypes.{operand_lanes, scalars_of}
use Rattle.spv_results.proofs.RuleLemmas.{typed_by}

select_rule : rule_of 169 ≡ Some Select
unfolding rule_of
select_rule = refl

module _ (a : Accepted) (i : Inst) (condition x y : Value) (sound : AreSound a.types) (conditional : IsOperand a i 0 condition) (first : IsOperand a i 1 x) (second : IsOperand a i 2 y)
    (is : i.op ≡ 169) (sized : has_runtime a.types i.ty ≡ false) (kept : KeepsLanes (known a) i) where
  typed : IsTyped a.types Select i.ty (types_after (known a) i 0)
  typed = typed_by (known a) i Select kept (ap rule_of is ∙ select_rule)

  first_shape : IsResult a i x
  first_shape = first i.ty typed.1

  second_shape : IsResult a i y
  second_shape = second i.ty typed.2

  governs : (length (leaves condition) ≡ 1) ⊎ (length (leaves condition) ≡ length (leaves x))
  governs = by_condition typed.3
    where
      by_condition : IsCondition (lanes_of a.types i.ty) (lanes_at a.types (type_at (known a) i 0)) → (length (leaves condition) ≡ 1) ⊎ (length (leaves condition) ≡ length (leaves x))
      by_condition (inl one) = inl (operand_lanes a i 0 1 Boolean condition sound conditional one).scalars.count
      by_condition (inr each) =
          let c = operand_lanes a i 0 each.0 Boolean condition sound conditional each.3 in
          let o = scalars_of a.types i.ty each.0 each.1 x sound each.4 first_shape in
          inr (c.scalars.count ∙ sym o.count)

  selecting : MaySelect (leaves condition) (leaves x) (leaves y) (length (leaves x))
  selecting = record { governs = governs; objects = record { count = refl; widths = leaves_alike a.types sound i.ty sized x y first_shape second_shape } }

  pub may_select : (n : ℕ) → n ≡ length (leaves x) → MaySelect (leaves condition) (leaves x) (leaves y) n
  may_select n long = subst (MaySelect (leaves condition) (leaves x) (leaves y)) (sym long) selecting

  pub select_shape : (v : Value) → v ≡ select_value condition x y → IsResult a i v
  select_shape v e =
      let cs : List Cell = selected (leaves condition) (leaves x) (leaves y) in
      let s = selected_widths (leaves condition) (leaves x) (leaves y) (length (leaves x)) selecting (leaves_fit a.types i.ty x first_shape) (leaves_fit a.types i.ty y second_shape) in
      subst (IsResult a i) (sym e) (form_keeps_shape a.types i.ty x cs first_shape s.0 s.1)
