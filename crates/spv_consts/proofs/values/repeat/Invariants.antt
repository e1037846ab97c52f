use Rattle.std.proofs.Common.{◌≡◌, ◌≤◌, ◌-◌, ◌++◌, drop}
use Rattle.spv_consts.specs.Copies.{copies}
use Rattle.spv_consts.proofs.values.repeat.Given as goal

-- the cells so far are those at first, and so many copies
abbrev pub invariant-loop-done : goal.invariant-loop-done
invariant-loop-done l = record {
  there : l.cells.items ≡ l.fn.cells.items ++ copies l.done (drop l.start l.fn.cells.items);
  few : l.done ≤ l.times;
}

abbrev pub decreases-loop-done : goal.decreases-loop-done
decreases-loop-done l = l.times - l.done
