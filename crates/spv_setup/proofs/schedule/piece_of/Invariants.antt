use Rattle.std.proofs.Common.{◌-◌, ◌≤◌, ◌<◌, length, take}
use Rattle.spv_setup.specs.Pieces.{pieces_entries}
use Rattle.spv_setup.proofs.schedule.piece_of.Given as goal

-- the place is in the pieces from the lower to before the higher
abbrev pub invariant-halves : goal.invariant-halves
invariant-halves l = record {
  apart : l.low < l.high;
  within : l.high ≤ length l.pieces;
  from : length (pieces_entries l.invocations (take l.low l.pieces)) ≤ l.n;
  to : l.n < length (pieces_entries l.invocations (take l.high l.pieces));
}

abbrev pub decreases-halves : goal.decreases-halves
decreases-halves l = l.high - l.low
