use Rattle.std.proofs.Common.{◌≡◌, ◌-◌, ◌≤◌, length, drop, Err}
use Rattle.spv_base.specs.declared.causes.Refusal.{Refusal}
use Rattle.spv_words.specs.Cuts.{cut, raw_of}
use Rattle.spv_words.proofs.cuts.inst_count.Given as goal

-- a refusal of what is behind is the module's
abbrev pub invariant-cuts : goal.invariant-cuts
invariant-cuts l = ((refusal : Refusal) → cut l.place 0 (drop l.place l.words) ≡ Err refusal → raw_of l.words ≡ Err refusal) × (l.insts ≤ l.place) × (l.place ≤ length l.words)

abbrev pub decreases-cuts : goal.decreases-cuts
decreases-cuts l = length l.words - l.place
