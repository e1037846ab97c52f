use Rattle.std.proofs.Common.{◌≡◌, ◌+◌, ◌≤◌, false, subst, sym}
use Rattle.spv_print.specs.Layouts.{Written, is_full}
use Rattle.spv_print.specs.Pieces.{piece_end}
use Rattle.spv_print.proofs.SheetLemmas.{leaf_keeps}
use Rattle.spv_print.proofs.sheets.Sheet.put_leaf.Goals as goal

pub invariant_of-self-2 : goal.invariant_of-self-2
invariant_of-self-2 c =
    let s = c.self.inside in
    let before : Written = record { pieces = s.pieces.items; taken = s.taken; left = s.left } in
    let room : is_full before ≡ false = subst (λ (x : Written). is_full x ≡ false) (sym c.self.view_is) c.requires.room in
    let within : piece_end c.args.piece ≤ s.taken + c.args.size = subst (λ (x : Written). piece_end c.args.piece ≤ x.taken + c.args.size) (sym c.self.view_is) c.requires.taken in
    rw (c.in_ok-push.ensures.items, c.from.ensures) (leaf_keeps before c.args.piece c.args.size room c.ranges.size.fits within c.self.invariant)
