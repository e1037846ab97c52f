use Rattle.spv_print.proofs.SheetLemmas.{put_keeps}
use Rattle.spv_print.proofs.sheets.Sheet.put.Goals as goal

pub invariant_of-self-2 : goal.invariant_of-self-2
invariant_of-self-2 c =
    let s = c.self.inside in
    rw c.in_ok-push.ensures.items (put_keeps (record { pieces = s.pieces.items; taken = s.taken; left = s.left }) c.args.piece c.requires c.self.invariant)
