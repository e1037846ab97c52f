use Rattle.std.proofs.Common.{◌≡◌, ◌++◌, ℕ, List, drop}
use Rattle.std.specs.List.{concat}
use Rattle.spv_source.specs.Walks.{shown_after}
use Rattle.spv_source.proofs.walks.Walk.pass_all.Given as goal

abbrev pub invariant-loop-n : goal.invariant-loop-n
invariant-loop-n l = (left : List ℕ) → shown_after l.self (concat (drop l.n l.text) ++ left) ≡ shown_after l.initial.self (concat l.text ++ left)
