use Rattle.std.proofs.Common.{◌≡◌, ◌++◌, ◌≤◌}
use Rattle.spv_print.specs.Numbers.{hex_digits}
use Rattle.spv_print.proofs.numbers.push_hex.Given as goal

-- with the digits that are left, all are written
abbrev pub invariant-digits : goal.invariant-digits
invariant-digits l = record {
  text : l.text.items ++ hex_digits l.left l.number ≡ l.fn.text.items ++ hex_digits l.count l.number;
  few : l.left ≤ 16;
}

abbrev pub decreases-digits : goal.decreases-digits
decreases-digits l = l.left
