use Rattle.std.proofs.Common.{◌≡◌, ◌++◌, length}
use Rattle.std.specs.List.{list_all}
use Rattle.spv_line.specs.Words.{words_in}
use Rattle.spv_line.specs.Hex.{is_hex_word, joined_pairs}
use Rattle.spv_line.proofs.hex.bytes.Given as goal

abbrev pub invariant-loop-word : goal.invariant-loop-word
invariant-loop-word l = record {
  hex : list_all is_hex_word (words_in l.left) ≡ list_all is_hex_word (words_in l.fn.text);
  joined : l.bytes.items ++ joined_pairs (words_in l.left) ≡ joined_pairs (words_in l.fn.text);
}

abbrev pub decreases-loop-word : goal.decreases-loop-word
decreases-loop-word l = length l.left
