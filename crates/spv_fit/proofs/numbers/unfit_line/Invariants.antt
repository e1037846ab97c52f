use Rattle.std.proofs.Common.{◌≡◌, length}
use Rattle.spv_fit.specs.Numbers.{unfit_line}
use Rattle.spv_fit.proofs.numbers.unfit_line.Given as goal

abbrev pub invariant-each : goal.invariant-each
invariant-each l = unfit_line l.index.insts l.types l.over l.numbers l.lines ≡ unfit_line l.index.insts l.types l.over l.fn.numbers l.fn.lines

abbrev pub decreases-each : goal.decreases-each
decreases-each l = length l.numbers
