use Rattle.std.proofs.Common.{◌≡◌, drop}
use Rattle.std.specs.List.{flat_map}
use Rattle.spv_base.specs.Lowest.{lower, lowest}
use Rattle.spv_cfg.specs.Phis.{phi_breach}
use Rattle.spv_cfg.proofs.phis.phi_breach.Given as goal

abbrev pub invariant-loop-n : goal.invariant-loop-n
invariant-loop-n l = lower l.least (lowest (flat_map (phi_breach l.edges) (drop l.n l.stands))) ≡ lowest (flat_map (phi_breach l.edges) l.stands)
