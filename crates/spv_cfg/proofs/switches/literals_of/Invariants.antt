use Rattle.std.proofs.Common.{◌≡◌, ◌++◌, drop, map}
use Rattle.spv_cfg.specs.Branches.{at_width}
use Rattle.spv_cfg.proofs.switches.literals_of.Given as goal

abbrev pub invariant-loop-case : goal.invariant-loop-case
invariant-loop-case l = l.literals.items ++ map (λ c. at_width l.width c.0) (drop l.case-index l.cases) ≡ map (λ c. at_width l.width c.0) l.cases
