use Rattle.std.proofs.Common.{◌≡◌, ◌++◌, drop, map}
use Rattle.spv_cfg.proofs.edges.edges_to.Given as goal

abbrev pub invariant-loop-target : goal.invariant-loop-target
invariant-loop-target l = l.edges.items ++ map (λ target. (target, l.label)) (drop l.target-index l.targets) ≡ map (λ target. (target, l.label)) l.targets
