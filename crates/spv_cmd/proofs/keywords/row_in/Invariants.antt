use Rattle.std.proofs.Common.{◌≡◌, length, map}
use Rattle.spv_cmd.specs.Answers.{row_with}
use Rattle.spv_cmd.proofs.keywords.row_in.Given as goal

abbrev pub invariant-loop-table : goal.invariant-loop-table
invariant-loop-table l = row_with l.word (map (λ r. (r.0, r.1.now, r.2)) l.table) ≡ row_with l.word (map (λ r. (r.0, r.1.now, r.2)) l.initial.table)

abbrev pub decreases-loop-table : goal.decreases-loop-table
decreases-loop-table l = length l.table
