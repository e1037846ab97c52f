use Rattle.std.proofs.Common.{◌≡◌, ℕ, ◌-◌, length, None}
use Rattle.std.specs.Prelude.{slice_index_or}
use Rattle.spv_mem.proofs.targets.lengthen.Given as goal

-- no number has another item than at first
abbrev pub invariant-loop-types : goal.invariant-loop-types
invariant-loop-types l = (id : ℕ) → slice_index_or l.types.items id None ≡ slice_index_or l.fn.types.items id None

abbrev pub decreases-loop-types : goal.decreases-loop-types
decreases-loop-types l = l.len - length l.types.items
