use Rattle.std.proofs.Common.{◌≡◌, ◌<◌, ◌+◌, ℕ, length, get_or}
use Rattle.spv_base.specs.Saturation.{saturated}
use Rattle.spv_cfg.proofs.chains.sums.Given as goal

abbrev pub invariant-loop-k : goal.invariant-loop-k
invariant-loop-k l = record {
  len : length l.sums.items ≡ l.k;
  sums : (f : ℕ) → f < l.k → get_or l.sums.items f 0 ≡ saturated (get_or l.xs f 0 + get_or l.ys f 0);
}
