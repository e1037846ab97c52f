-- The instructions that compute (SPIR-V 1.6 sections 3.42.11 to 3.42.15).
use Rattle.std.specs.Prelude.{ℕ, Result, Ok, ok_or}
use Rattle.spv_base.specs.declared.instructions.Inst.{Inst}
use Rattle.spv_valid.specs.Below.spv_ops.specs.Steps.{◌>>=◌}
use Rattle.spv_frame.specs.Frames.{Held as Frame}
use Rattle.spv_operands.specs.Values.{operand_value}
use Rattle.spv_state.specs.Below.spv_results.specs.Results.{result_of}
use Rattle.spv_state.specs.Program.{Program}
use Rattle.spv_state.specs.State.{State, depth_of}
use Rattle.spv_sites.specs.Effects.{Effect, gives}
use Rattle.spv_sites.specs.declared.causes.Cause.{Cause}
use Rattle.spv_sites.specs.declared.causes.Cause.TheVariants.{NoValue}

-- what its operands give; F4 where one has no value
abbrev pub compute_effect : Program → State → ℕ → Frame → Inst → Result Effect Cause
compute_effect p s i f d = ok_or (result_of p.accepted d (operand_value p.accepted f (depth_of s i) d)) NoValue >>= (λ v. Ok (gives v))
