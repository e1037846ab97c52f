use Rattle.std.proofs.Common.{◌≡◌, ◌++◌, length}
use Rattle.spv_cfg.specs.Executables.{followers_of}
use Rattle.spv_cfg.proofs.executables.followers_of.Given as goal

abbrev pub invariant-forth : goal.invariant-forth
invariant-forth l = l.followers.items ++ followers_of l.rest ≡ followers_of l.executables

abbrev pub decreases-forth : goal.decreases-forth
decreases-forth l = length l.rest
