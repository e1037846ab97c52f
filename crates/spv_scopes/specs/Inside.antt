-- What is stored of where instructions stand.
use Rattle.std.specs.Prelude.{map}
use Rattle.spv_scopes.specs.declared.spot_table.SpotTable.TheInside.{Inside}
use Rattle.spv_scopes.specs.Calls.{AreCounted, seen}
use Rattle.spv_scopes.specs.Spots.{Spots}

abbrev pub view_of : Inside → Spots
view_of x = map (seen x.calls.items) x.spots

-- with how many calls there are from each outward
abbrev pub IsCounted : Inside → Type 0
IsCounted x = AreCounted x.calls.items x.counts.items
