use Rattle.std.proofs.Common.{◌≡◌, ℕ, ◌-◌, length}
use Rattle.spv_index.specs.Firsts.{slot}
use Rattle.spv_index.proofs.firsts.lengthen.Given as goal

-- no number has another item than at first
abbrev pub invariant-loop-slots : goal.invariant-loop-slots
invariant-loop-slots g l = (q : ℕ) → slot l.slots.items q ≡ slot l.fn.slots.items q

abbrev pub decreases-loop-slots : goal.decreases-loop-slots
decreases-loop-slots g l = l.len - length l.slots.items
