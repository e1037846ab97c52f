use Rattle.std.proofs.Common.{◌≡◌, take}
use Rattle.spv_print.specs.Pieces.{pieces_end}
use Rattle.spv_print.proofs.layouts.end_of.Given as goal

abbrev pub invariant-loop-piece : goal.invariant-loop-piece
invariant-loop-piece l = l.end ≡ pieces_end (take l.piece-index l.pieces)
