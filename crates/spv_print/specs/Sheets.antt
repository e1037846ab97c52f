-- What holds of pieces while they are laid out. Clauses of private calls alone cite it.
use Rattle.std.specs.Prelude.{◌+◌, ◌*◌, ◌^◌, ◌≤◌}
use Rattle.spv_print.specs.Layouts.{Written}
use Rattle.spv_print.specs.Pieces.{pieces_end}

-- each leaf is read from bits that were taken, and took less than 2 ^ 32 of them
pub record IsSheet (s : Written) : Type 0 where
  pub read : pieces_end s.pieces ≤ s.taken
  pub few : s.taken + s.left * 2 ^ 32 ≤ 2 ^ 40
