use Rattle.std.proofs.Common.{◌*◌, ◌∙◌, sym, ap}
use Rattle.spv_setup.specs.Pieces.{turns_of}
use Rattle.spv_setup.proofs.ScheduleLemmas.{length_repeat}
use Rattle.spv_setup.proofs.pieces.Piece.len.Goals as goal

pub returns : goal.returns
returns c = ap (λ n. c.args.self.count * n) c.len.ensures ∙ sym (length_repeat c.args.self.count (turns_of c.args.invocations c.args.self.turn))
