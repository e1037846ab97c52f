-- How many cells results have.
use Rattle.std.proofs.Common.{◌≡◌, ℕ, ◌<◌, ◌≤◌, ◌^◌, false, length, Option, Some, None, refl, arith}
use Rattle.std.proofs.Math.Logic.{∥∥₁_elim}
use Rattle.std.proofs.Props.{props}
use Rattle.std.specs.Prelude.{unwrap_or}
use Rattle.std.specs.Option.{option_map}
use Rattle.spv_base.specs.declared.instructions.Inst.{Inst}
use Rattle.spv_base.specs.declared.values.Value.{Value}
use Rattle.spv_types.specs.Cells.{cells_of}
use Rattle.spv_base.specs.Saturation.{saturated}
use Rattle.spv_types.specs.Rows.{leaves, no_roots}
use Rattle.spv_types.specs.Rules.{has_runtime}
use Rattle.spv_valid.specs.Acceptance.{Accepted}
use Rattle.spv_valid.specs.Validity.{IsValid}
use Rattle.spv_results.specs.Operands.{IsResult}
use Rattle.spv_plans.proofs.Exports.{cells_known}
use Rattle.spv_results.proofs.RoomLemmas.{AreCounted, room_is}

-- the cells of the result's type
abbrev pub room_of : Accepted → Inst → ℕ
room_of a i = unwrap_or (cells_of a.types i.ty) 0

-- no number of cells is saturated, by the limits on types
pub room_whole : (a : Accepted) (i : Inst) → ∥ IsValid a ∥₁ → unwrap_or (option_map saturated (cells_of a.types i.ty)) 0 ≡ room_of a i
room_whole a i valid = ∥∥₁_elim valid (hlevel props) (λ (is : IsValid a). go (cells_of a.types i.ty) (is.limits.leaves i.ty))
  where
    go : (o : Option ℕ) → ((n : ℕ) → o ≡ Some n → n ≤ 4194304) → unwrap_or (option_map saturated o) 0 ≡ unwrap_or o 0
    go None few = refl
    go (Some n) few = let low : n ≤ 4194304 = few n refl in omega arith

pub counted : (a : Accepted) → IsValid a → AreCounted a.types
counted a is = cells_known a.types is.types is.lengths

-- a value of the result's type fills its room
pub fills_room : (a : Accepted) (i : Inst) (v : Value) → IsValid a → has_runtime a.types i.ty ≡ false → IsResult a i v → length (leaves v) ≡ room_of a i
fills_room a i v is sized h = room_is a.types no_roots (counted a is) i.ty v sized h

room_few : (a : Accepted) (i : Inst) → IsValid a → room_of a i ≤ 4194304
room_few a i is = go (cells_of a.types i.ty) (is.limits.leaves i.ty)
  where
    go : (o : Option ℕ) → ((n : ℕ) → o ≡ Some n → n ≤ 4194304) → unwrap_or o 0 ≤ 4194304
    go None few = omega arith
    go (Some n) few = few n refl

-- and has few cells
pub few_cells : (a : Accepted) (i : Inst) (v : Value) → IsValid a → has_runtime a.types i.ty ≡ false → IsResult a i v → length (leaves v) < 2 ^ 64
few_cells a i v is sized h =
    let all = fills_room a i v is sized h in
    let few = room_few a i is in
    omega (arith, all, few)
