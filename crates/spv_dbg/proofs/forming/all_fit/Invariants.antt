use Rattle.std.proofs.Common.{◌≡◌, length}
use Rattle.spv_dbg.specs.Forming.{all_fit}
use Rattle.spv_dbg.proofs.forming.all_fit.Given as goal

abbrev pub invariant-loop-roles : goal.invariant-loop-roles
invariant-loop-roles l = all_fit l.module l.marks l.roles l.ids ≡ all_fit l.module l.marks l.initial.roles l.initial.ids

abbrev pub decreases-loop-roles : goal.decreases-loop-roles
decreases-loop-roles l = length l.roles
