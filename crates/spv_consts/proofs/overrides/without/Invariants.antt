use Rattle.std.proofs.Common.{◌≡◌, ◌++◌, drop}
use Rattle.spv_consts.specs.Overrides.{fitting_overrides}
use Rattle.spv_consts.proofs.overrides.without.Given as goal

-- the overrides that hold so far, and those among the rest
abbrev pub invariant-loop-number : goal.invariant-loop-number
invariant-loop-number l = l.held.items ++ fitting_overrides l.index.insts l.types l.over (drop l.number-index l.numbers) ≡ fitting_overrides l.index.insts l.types l.over l.numbers
