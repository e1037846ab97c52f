use Rattle.std.proofs.Common.{◌≡◌, ◌+◌, ℕ, slice_get}
use Rattle.std.specs.Prelude.{reverse}
use Rattle.spv_scopes.specs.Calls.{calls_from}
use Rattle.spv_scopes.proofs.frames.place_outward.Given as goal

abbrev pub invariant-loop-step : goal.invariant-loop-step
invariant-loop-step l = (k : ℕ) → slice_get (calls_from (reverse l.calls) l.number) k ≡ slice_get (calls_from (reverse l.calls) l.fn.first) (l._step + k)
