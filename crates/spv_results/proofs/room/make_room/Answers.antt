use Rattle.std.proofs.Common.{◌≡◌, ◌∙◌, OnOk, ℕ, ap, length, subst}
use Rattle.std.specs.Prelude.{unwrap_or}
use Rattle.std.specs.Option.{option_map}
use Rattle.spv_types.specs.Cells.{cells_of}
use Rattle.spv_base.specs.Saturation.{saturated}
use Rattle.spv_types.specs.Rows.{leaves}
use Rattle.spv_types.specs.Types.{Types}
use Rattle.spv_results.proofs.ResultRooms.{room_whole}
use Rattle.spv_results.proofs.room.make_room.Goals as goal

pub returns-clause-room : goal.returns-clause-room
returns-clause-room c =
    let cells : c.unwrap_or-cells.result ≡ unwrap_or (option_map saturated (cells_of c.args.accepted.now.types c.args.inst.now.ty)) 0 =
    c.unwrap_or-cells.ensures ∙ ap (λ o. unwrap_or o 0) c.cells.ensures ∙ ap (λ (ts : Types). unwrap_or (option_map saturated (cells_of ts c.args.inst.now.ty)) 0) c.types.ensures in
    subst (λ (n : ℕ). OnOk c.resize.result (length (leaves c.resize.new.row) ≡ n)) (cells ∙ room_whole c.args.accepted.now c.args.inst.now c.insts-insts.ensures.valid) c.resize.ensures.ok
