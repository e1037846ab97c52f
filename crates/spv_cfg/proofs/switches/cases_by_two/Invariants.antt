use Rattle.std.proofs.Common.{◌≡◌, ◌++◌, length}
use Rattle.spv_cfg.specs.Branches.{cases_by_two}
use Rattle.spv_cfg.proofs.switches.cases_by_two.Given as goal

abbrev pub invariant-forth : goal.invariant-forth
invariant-forth l = l.cases.items ++ cases_by_two l.rest ≡ cases_by_two l.words

abbrev pub decreases-forth : goal.decreases-forth
decreases-forth l = length l.rest
