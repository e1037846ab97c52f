use Rattle.std.proofs.Common.{◌≡◌, ◌++◌, take}
use Rattle.spv_print.specs.Leaves.{bits_in}
use Rattle.spv_print.specs.Pieces.{text_of}
use Rattle.spv_print.proofs.pieces.Source.push_all.Given as goal

abbrev pub invariant-loop-piece : goal.invariant-loop-piece
invariant-loop-piece l = l.text.items ≡ l.fn.text.items ++ text_of l.self.tables.now (bits_in l.self.bits.now) (take l.piece-index l.pieces)
