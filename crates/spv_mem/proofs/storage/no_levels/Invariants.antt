use Rattle.std.proofs.Common.{◌≡◌, [], replicate}
use Rattle.spv_mem.proofs.storage.no_levels.Given as goal

abbrev pub invariant-loop-number : goal.invariant-loop-number
invariant-loop-number l = l.lists.items ≡ replicate l._number (record { list = []; room = l.room })
