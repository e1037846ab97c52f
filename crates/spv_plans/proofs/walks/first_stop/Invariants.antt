use Rattle.std.proofs.Common.{◌≡◌, drop}
use Rattle.std.specs.Prelude.{find}
use Rattle.spv_plans.specs.Members.{is_stop}
use Rattle.spv_plans.proofs.walks.first_stop.Given as goal

-- none so far
abbrev pub invariant-loop-n : goal.invariant-loop-n
invariant-loop-n l = find is_stop (drop l.n l.stands) ≡ find is_stop (drop l.start l.stands)
