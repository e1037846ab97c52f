use Rattle.std.proofs.Common.{◌≡◌, take}
use Rattle.spv_mem.proofs.entries.lists_copied.Given as goal

abbrev pub invariant-loop-roots : goal.invariant-loop-roots
invariant-loop-roots l = l.copies.items ≡ take l.roots-index l.lists
