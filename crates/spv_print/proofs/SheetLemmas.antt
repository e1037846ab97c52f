-- What holds of pieces that are laid out.
use Rattle.std.proofs.Common.{◌≡◌, ℕ, zero, suc, ◌+◌, ◌-◌, ◌*◌, ◌^◌, ◌<◌, ◌≤◌, false, arith}
use Rattle.spv_print.specs.declared.pieces.Piece.{Piece}
use Rattle.spv_print.specs.Layouts.{Written, is_full, put, put_leaf}
use Rattle.spv_print.specs.Pieces.{piece_end}
use Rattle.spv_print.specs.Sheets.{IsSheet}
use Rattle.spv_print.proofs.PieceLemmas.{one_more}

pub put_keeps : (s : Written) (p : Piece) → piece_end p ≡ 0 → IsSheet s → IsSheet (put p s)
put_keeps s p none is = record { read = omega (arith, one_more s.pieces p, none, is.read); few = is.few }

pub leaf_keeps : (s : Written) (p : Piece) (size : ℕ) → is_full s ≡ false → size < 2 ^ 32 → piece_end p ≤ s.taken + size → IsSheet s → IsSheet (put_leaf p size s)
leaf_keeps s p size room small within is = by s.left room is.few
  where
    by : (left : ℕ) → is_full (record { pieces = s.pieces; taken = s.taken; left = left }) ≡ false → s.taken + left * 2 ^ 32 ≤ 2 ^ 40 → IsSheet (put_leaf p size (record { pieces = s.pieces; taken = s.taken; left = left }))
    by zero room few = absurd cc
    by (suc left) room few =
        let one : suc left - 1 ≡ left = omega arith in
        record { read = omega (arith, one_more s.pieces p, within, is.read); few = rw one (omega (arith, few, small)) }
