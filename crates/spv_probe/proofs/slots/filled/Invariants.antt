use Rattle.std.proofs.Common.{◌≡◌, map, Some}
use Rattle.spv_probe.proofs.slots.filled.Given as goal

abbrev pub invariant-loop-probe : goal.invariant-loop-probe
invariant-loop-probe g l = l.slots.items ≡ map Some l.yielded
