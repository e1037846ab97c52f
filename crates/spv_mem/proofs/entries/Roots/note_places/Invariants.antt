use Rattle.std.proofs.Common.{◌≡◌}
use Rattle.spv_mem.proofs.entries.Roots.note_places.Given as goal

abbrev pub invariant-loop-place : goal.invariant-loop-place
invariant-loop-place l = l.targets ≡ l.fn.targets
