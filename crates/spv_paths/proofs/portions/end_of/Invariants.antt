use Rattle.std.proofs.Common.{◌≡◌, ℕ, ◌-◌}
use Rattle.spv_base.specs.Saturation.{saturated}
use Rattle.spv_paths.specs.Kept.{kept_portion}
use Rattle.spv_paths.specs.Portions.{end_of, end_within}
use Rattle.spv_paths.proofs.portions.end_of.Given as goal

abbrev pub invariant-loop-n : goal.invariant-loop-n
invariant-loop-n l = (left : ℕ) → left ≡ 64 - l.n → saturated (end_within left l.tables l.bits (kept_portion l.at)) ≡ saturated (end_of l.tables l.bits (kept_portion l.portion))
