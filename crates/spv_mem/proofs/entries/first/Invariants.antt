use Rattle.std.proofs.Common.{◌≡◌, None, take}
use Rattle.spv_base.specs.Entries.{reads}
use Rattle.spv_mem.proofs.entries.first.Given as goal

abbrev pub invariant-loop-k : goal.invariant-loop-k
invariant-loop-k l = reads l.id (take l.k l.entries) ≡ None
