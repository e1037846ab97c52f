use Rattle.std.proofs.Common.{◌≡◌, take}
use Rattle.spv_cfg.proofs.calls.Calls.lengths.Given as goal

abbrev pub invariant-loop-length : goal.invariant-loop-length
invariant-loop-length l = l.lengths.items ≡ take l.length-index l.length-items
