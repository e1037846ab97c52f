use Rattle.std.proofs.Common.{◌≡◌, ℕ, None, take}
use Rattle.std.specs.Prelude.{slice_index_or}
use Rattle.spv_base.specs.Entries.{reads}
use Rattle.spv_mem.proofs.targets.types_by_ids.Given as goal

abbrev pub invariant-loop-target : goal.invariant-loop-target
invariant-loop-target l = (q : ℕ) → slice_index_or l.types.items q None ≡ reads q (take l.target-index l.list)
