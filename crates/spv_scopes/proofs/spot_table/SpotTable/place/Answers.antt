use Rattle.std.proofs.Common.{ap}
use Rattle.spv_scopes.specs.Spots.{Spot}
use Rattle.spv_scopes.proofs.SpotLemmas.{spot_kept}
use Rattle.spv_scopes.proofs.spot_table.SpotTable.place.Goals as goal

pub returns : goal.returns
returns c =
    let x = c.self.inside in
    ap (λ (s : Spot). s.place) (spot_kept x.calls.items x.spots c.args.self.now c.args.word c.kept_at.result c.self.view_is c.kept_at.ensures)
