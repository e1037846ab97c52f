use Rattle.std.proofs.Common.{◌≡◌, drop}
use Rattle.std.specs.List.{flat_map}
use Rattle.spv_index.specs.Positions.{outside}
use Rattle.spv_base.specs.Lowest.{lower, lowest}
use Rattle.spv_cfg.specs.Layout.{behind, layout_breach}
use Rattle.spv_cfg.proofs.layout.layout_breach.Given as goal

abbrev pub invariant-loop-n : goal.invariant-loop-n
invariant-loop-n l = record {
  words : lower l.least (lowest (flat_map layout_breach (drop l.n l.stands))) ≡ lowest (flat_map layout_breach l.stands);
  last : behind l.position (drop l.n l.stands) ≡ behind outside l.stands;
}
