-- What copies and undefined values ask and give, where an instruction of a valid module keeps its rule.
use Rattle.std.proofs.Common.{◌≡◌, ◌||◌, not, true, false, length, sym, ap}
use Rattle.std.proofs.Math.Logic.{∥∥₁_elim, ∥∥₁_map}
use Rattle.std.proofs.Props.{props}
use Rattle.std.proofs.lemmas.Bool.{and_parts, not-true}
use Rattle.spv_base.specs.declared.instructions.Inst.{Inst}
use Rattle.spv_base.specs.declared.values.Value.{Value}
use Rattle.spv_types.specs.Cells.{cells_of}
use Rattle.spv_types.specs.Rows.{leaves, no_roots}
use Rattle.spv_types.specs.Rules.{has_runtime, is_data}
use Rattle.spv_types.specs.Types.{form_of}
use Rattle.spv_valid.specs.Below.spv_bodies.specs.Composites.{KeepsCopyObject}
use Rattle.spv_valid.specs.Below.spv_bodies.specs.Matching.{KeepsCopyLogical}
use Rattle.spv_valid.specs.Below.spv_bodies.specs.Memory.{KeepsUndef}
use Rattle.spv_mem.specs.Blanks.{blank_of}
use Rattle.spv_mem.specs.Targets.{Fits, is_open_block, may_be_target}
use Rattle.spv_mem.proofs.Exports.{blank_shape, is_counted_by}
use Rattle.spv_valid.specs.Acceptance.{Accepted}
use Rattle.spv_valid.specs.Validity.{IsValid}
use Rattle.spv_results.specs.Operands.{IsOperand, IsResult, known}
use Rattle.spv_results.proofs.LogicalShapes.{match_keeps_shape}
use Rattle.spv_results.proofs.ResultRooms.{counted, fills_room, room_of}
use Rattle.spv_results.proofs.RoomLemmas.{sized_counted}
use Rattle.spv_results.proofs.ShapeProps.{shape_prop}

-- a value of the result's type fills its room
pub copy_fills : (a : Accepted) (i : Inst) (v : Value) → ∥ IsValid a ∥₁ → has_runtime a.types i.ty ≡ false → IsResult a i v → room_of a i ≡ length (leaves v)
copy_fills a i v valid sized h = ∥∥₁_elim valid (hlevel props) (λ (is : IsValid a). sym (fills_room a i v is sized h))

pub object_shape : (a : Accepted) (i : Inst) (v : Value) → KeepsCopyObject (known a) i → IsOperand a i 0 v → IsResult a i v
object_shape a i v rule operand = operand i.ty rule

pub logical_shape : (a : Accepted) (i : Inst) (v : Value) → KeepsCopyLogical (known a) i → IsOperand a i 0 v → IsResult a i v
logical_shape a i v rule operand = match_keeps_shape a.types no_roots rule.1.0 i.ty v rule.1.2 (operand rule.1.0 rule.1.1)

-- ---- OpUndef

undefined_fits_in : (a : Accepted) (i : Inst) → IsValid a → KeepsUndef (known a) i → Fits a.types i.ty (blank_of a.types 0 i.ty)
undefined_fits_in a i is rule =
    let both = and_parts (is_data (form_of a.types i.ty)) (not (has_runtime a.types i.ty)) rule in
    let n = sized_counted a.types (counted a is) i.ty rule in
    let may : may_be_target a.types i.ty ≡ true = ap (λ b. b || is_open_block a.types (form_of a.types i.ty)) (is_counted_by (cells_of a.types i.ty) n.0 n.1) in
    record { sound = is.types; may = may; shape = blank_shape a.types 0 is.types i.ty may both.0 }

pub undefined_fits : (a : Accepted) (i : Inst) → ∥ IsValid a ∥₁ → KeepsUndef (known a) i → ∥ Fits a.types i.ty (blank_of a.types 0 i.ty) ∥₁
undefined_fits a i valid rule = ∥∥₁_map valid (λ (is : IsValid a). undefined_fits_in a i is rule)

pub undefined_shape : (a : Accepted) (i : Inst) → ∥ IsValid a ∥₁ → KeepsUndef (known a) i → IsResult a i (blank_of a.types 0 i.ty)
undefined_shape a i valid rule = ∥∥₁_elim valid (shape_prop a.types no_roots i.ty (blank_of a.types 0 i.ty)) (λ (is : IsValid a). (undefined_fits_in a i is rule).shape)

pub undefined_fills : (a : Accepted) (i : Inst) → ∥ IsValid a ∥₁ → KeepsUndef (known a) i → room_of a i ≡ length (leaves (blank_of a.types 0 i.ty))
undefined_fills a i valid rule =
    let both = and_parts (is_data (form_of a.types i.ty)) (not (has_runtime a.types i.ty)) rule in
    copy_fills a i (blank_of a.types 0 i.ty) valid (not-true (has_runtime a.types i.ty) both.1) (undefined_shape a i valid rule)
