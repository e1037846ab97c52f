-- Barriers (SPIR-V 1.6 section 3.42.20). Where an operand has no value that is looked for first.
use Rattle.std.specs.Prelude.{ℕ, Result, Ok}
use Rattle.spv_base.specs.declared.instructions.Inst.{Inst}
use Rattle.spv_valid.specs.Below.spv_ops.specs.Steps.{◌>>=◌}
use Rattle.spv_frame.specs.Frames.{Held as Frame}
use Rattle.spv_state.specs.Program.{Program}
use Rattle.spv_state.specs.State.{State}
use Rattle.spv_sites.specs.Atomics.{first_of_three}
use Rattle.spv_sites.specs.Effects.{Effect, Wait, goes, operand, passes}
use Rattle.spv_sites.specs.declared.causes.Cause.{Cause}

-- OpControlBarrier (execution, memory, semantics): the invocation waits
abbrev pub control_barrier_effect : Program → State → ℕ → Frame → Inst → Result Effect Cause
control_barrier_effect p s i f d = first_of_three p s i f d >>= (λ _. Ok (goes Wait))

-- OpMemoryBarrier (memory, semantics): each event is seen by all that come after it, so there is nothing to do
abbrev pub memory_barrier_effect : Program → State → ℕ → Frame → Inst → Result Effect Cause
memory_barrier_effect p s i f d = operand p s i f d 0 >>= (λ _. operand p s i f d 1 >>= (λ _. Ok passes))
