use Rattle.std.proofs.Common.{◌<◌, ◌≤◌, ℕ, get_or}
use Rattle.spv_index.proofs.firsts.above.Given as goal

abbrev pub invariant-loop-key : goal.invariant-loop-key
invariant-loop-key l = record {
  limit : l.above ≤ 1048576;
  above : (k : ℕ) → k < l.key-index → get_or l.keys k 0 < 1048576 → get_or l.keys k 0 < l.above;
}
