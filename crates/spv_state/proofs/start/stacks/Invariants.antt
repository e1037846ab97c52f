use Rattle.std.proofs.Common.{◌≡◌, [], ◌∷◌, replicate}
use Rattle.spv_frame.specs.Frames.{fresh}
use Rattle.spv_state.specs.Events.{passed}
use Rattle.spv_state.proofs.start.stacks.Given as goal

abbrev pub invariant-loop-number : goal.invariant-loop-number
invariant-loop-number l = l.stacks.items ≡ replicate l._number (record { frames = passed l.m.accepted 0 (fresh l.plan.value) ∷ []; room = l.room })
