use Rattle.std.proofs.Common.{◌≡◌, ◌≤◌, ◌<◌, ℕ, drop, length, get_or}
use Rattle.spv_cfg.specs.Chains.{most}
use Rattle.spv_cfg.proofs.chains.most_called.Given as goal

-- the calls from place i on are looked at
abbrev pub invariant-back : goal.invariant-back
invariant-back l = record {
  small : l.i ≤ length l.calls;
  len : length l.called.items ≡ length l.heaviest;
  called : (f : ℕ) → f < length l.heaviest → get_or l.called.items f 0 ≡ most (λ g. get_or l.heaviest g 0) f (drop l.i l.calls);
}

abbrev pub decreases-back : goal.decreases-back
decreases-back l = l.i
