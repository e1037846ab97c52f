use Rattle.std.proofs.Common.{◌≡◌, ◌++◌, [], drop, map, take}
use Rattle.std.specs.Prelude.{reverse}
use Rattle.spv_index.specs.Positions.{stands_of}
use Rattle.spv_scopes.specs.Calls.{seen}
use Rattle.spv_scopes.specs.InForce.{in_force}
use Rattle.spv_scopes.specs.Spots.{spots_from}
use Rattle.spv_scopes.proofs.spots.spots_of.Given as goal

abbrev pub invariant-loop-n : goal.invariant-loop-n
invariant-loop-n l = record {
  stands_are : l.stands ≡ stands_of l.module.insts;
  force_is : l.force ≡ in_force l.tables (reverse (take l.n l.stands));
  same : map (seen l.scopes.calls.list.items) l.entries.items ++ spots_from l.tables (reverse (take l.n l.stands)) (drop l.n l.stands) ≡ spots_from l.tables [] l.stands;
}
