use Rattle.std.proofs.Common.{◌≡◌, ◌++◌, true, length}
use Rattle.std.specs.List.{list_all}
use Rattle.spv_line.specs.Hex.{is_hex_digit, pairs_of}
use Rattle.spv_line.proofs.hex.push_pairs.Given as goal

abbrev pub invariant-loop-byte : goal.invariant-loop-byte
invariant-loop-byte l = record {
  hex : list_all is_hex_digit l.digits ≡ true;
  joined : l.bytes.items ++ pairs_of l.digits ≡ l.initial.bytes.items ++ pairs_of l.word;
}

abbrev pub decreases-loop-byte : goal.decreases-loop-byte
decreases-loop-byte l = length l.digits
