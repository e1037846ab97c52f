use Rattle.std.proofs.Common.{◌≡◌, ◌++◌, drop, map}
use Rattle.spv_cfg.proofs.phis.seconds_of.Given as goal

abbrev pub invariant-loop-pair : goal.invariant-loop-pair
invariant-loop-pair l = l.seconds.items ++ map (λ pair. pair.1) (drop l.pair-index l.pairs) ≡ map (λ pair. pair.1) l.pairs
