use Rattle.std.proofs.Common.{◌≡◌, ◌++◌, [], drop, take}
use Rattle.std.specs.Prelude.{reverse}
use Rattle.spv_index.specs.Positions.{stands_of}
use Rattle.spv_scopes.specs.Found.{IsFound, found_heads}
use Rattle.spv_scopes.specs.Heads.{heads_from}
use Rattle.spv_scopes.proofs.heads.heads_of.Given as goal

abbrev pub invariant-loop-n : goal.invariant-loop-n
invariant-loop-n l = record {
  stands_are : l.stands ≡ stands_of l.module.insts;
  found : IsFound l.tables l.spots (reverse (take l.n l.stands)) l.found;
  same : found_heads l.found ++ heads_from l.tables l.spots (reverse (take l.n l.stands)) (drop l.n l.stands) ≡ heads_from l.tables l.spots [] l.stands;
}
