use Rattle.std.proofs.Common.{◌≡◌, ◌-◌, ◌≤◌, length, drop}
use Rattle.spv_words.proofs.CutLemmas.{behind}
use Rattle.spv_words.specs.Cuts.{cut, raw_of}
use Rattle.spv_words.proofs.cuts.cut_words.Given as goal

-- the instructions so far, and the cuts of what is behind
abbrev pub invariant-cuts : goal.invariant-cuts
invariant-cuts l = (raw_of l.words ≡ behind l.insts.items (cut l.place 0 (drop l.place l.words))) × (l.place ≤ length l.words)

abbrev pub decreases-cuts : goal.decreases-cuts
decreases-cuts l = length l.words - l.place
