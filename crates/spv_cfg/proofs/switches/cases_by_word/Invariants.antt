use Rattle.std.proofs.Common.{◌≡◌, ◌++◌, length}
use Rattle.spv_cfg.specs.Branches.{cases_by_word}
use Rattle.spv_cfg.proofs.switches.cases_by_word.Given as goal

abbrev pub invariant-forth : goal.invariant-forth
invariant-forth l = l.cases.items ++ cases_by_word l.rest ≡ cases_by_word l.words

abbrev pub decreases-forth : goal.decreases-forth
decreases-forth l = length l.rest
