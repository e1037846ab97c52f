use Rattle.std.proofs.Common.{◌≡◌, ◌<◌, ℕ, Some, length}
use Rattle.std.specs.Prelude.{reverse, slice_index}
use Rattle.spv_scopes.specs.Calls.{calls_from}
use Rattle.spv_scopes.proofs.calls.counts_of.Given as goal

abbrev pub invariant-loop-n : goal.invariant-loop-n
invariant-loop-n l = record {
  few : length l.counts.items ≡ l.n;
  counted : (k : ℕ) → k < l.n → slice_index l.counts.items k ≡ length (calls_from (reverse l.calls) (Some k));
}
