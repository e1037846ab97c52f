use Rattle.std.proofs.Common.{◌≡◌, ℕ, take}
use Rattle.spv_base.specs.Entries.{reads}
use Rattle.spv_index.specs.Firsts.{slot}
use Rattle.spv_expr.proofs.typed.types_by_ids.Given as goal

abbrev pub invariant-loop-target : goal.invariant-loop-target
invariant-loop-target l = (id : ℕ) → slot l.types id ≡ reads id (take l.target-index l.targets)
