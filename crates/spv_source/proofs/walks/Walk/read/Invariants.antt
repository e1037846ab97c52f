use Rattle.std.proofs.Common.{◌≡◌, ◌++◌, ℕ, List, drop}
use Rattle.spv_source.specs.Walks.{shown_after}
use Rattle.spv_source.proofs.walks.Walk.read.Given as goal

abbrev pub invariant-loop-byte : goal.invariant-loop-byte
invariant-loop-byte l = (left : List ℕ) → shown_after l.self (drop l.byte-index l.bytes ++ left) ≡ shown_after l.initial.self (l.bytes ++ left)
