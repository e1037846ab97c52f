use Rattle.std.proofs.Common.{◌≡◌, ◌<◌, ◌≤◌, ◌-◌, ℕ, length, get_or}
use Rattle.spv_base.specs.Saturation.{saturated}
use Rattle.spv_cfg.specs.Chains.{heaviest}
use Rattle.spv_cfg.proofs.calls.Calls.heaviest.Given as goal

abbrev pub invariant-heavier : goal.invariant-heavier
invariant-heavier l = record {
  few : l.most ≤ 65;
  len : length l.heaviest.items ≡ length l.weights;
  heaviest_are : (weigh : ℕ → ℕ) → ((f : ℕ) → f < length l.weights → get_or l.weights f 0 ≡ saturated (weigh f))
      → (f : ℕ) → f < length l.weights → get_or l.heaviest.items f 0 ≡ saturated (heaviest l.most weigh l.self.list f);
}

abbrev pub decreases-heavier : goal.decreases-heavier
decreases-heavier l = 65 - l.most
