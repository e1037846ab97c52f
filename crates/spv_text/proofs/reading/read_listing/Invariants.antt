use Rattle.std.proofs.Common.{◌≡◌, ◌+◌, ◌*◌, ◌≤◌, ◌++◌, length}
use Rattle.spv_text.specs.Listing.{listing}
use Rattle.spv_text.specs.Reading.{word_behind, AreInsts}
use Rattle.spv_text.proofs.reading.read_listing.Given as goal

-- the text is the listing of what was read, and what is left; each line has a byte at least
abbrev pub invariant-loop-rest : goal.invariant-loop-rest
invariant-loop-rest l = record {
  whole : l.fn.text ≡ listing l.insts.items ++ l.rest;
  stand : AreInsts 5 l.insts.items;
  word : l.word ≡ word_behind 5 l.insts.items;
  fits : l.word ≤ 5 + 65535 * length l.insts.items;
  lines : length l.insts.items + length l.rest ≤ length l.fn.text;
}

abbrev pub decreases-loop-rest : goal.decreases-loop-rest
decreases-loop-rest l = length l.rest
