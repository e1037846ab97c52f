-- Loads, stores and copies (SPIR-V 1.6 section 3.42.8). Where an operand has no value that is looked for first.
use Rattle.std.specs.Prelude.{ℕ, Result, Ok}
use Rattle.spv_base.specs.declared.instructions.Inst.{Inst}
use Rattle.spv_valid.specs.Below.spv_ops.specs.Steps.{◌>>=◌}
use Rattle.spv_frame.specs.Frames.{Held as Frame}
use Rattle.spv_state.specs.Program.{Program}
use Rattle.spv_state.specs.State.{State}
use Rattle.spv_sites.specs.Effects.{Effect, gives, loaded, operand, pointer, sets}
use Rattle.spv_sites.specs.declared.causes.Cause.{Cause}

-- OpLoad (pointer)
abbrev pub load_effect : Program → State → ℕ → Frame → Inst → Result Effect Cause
load_effect p s i f d = operand p s i f d 0 >>= (λ at. pointer at >>= (λ q. loaded s i q >>= (λ v. Ok (gives v))))

-- OpStore (pointer, object)
abbrev pub store_effect : Program → State → ℕ → Frame → Inst → Result Effect Cause
store_effect p s i f d =
    operand p s i f d 0 >>= (λ at. operand p s i f d 1 >>= (λ v. pointer at >>= (λ q. loaded s i q >>= (λ _. Ok (sets q v)))))

-- OpCopyMemory (target, source)
abbrev pub copy_memory_effect : Program → State → ℕ → Frame → Inst → Result Effect Cause
copy_memory_effect p s i f d =
    operand p s i f d 0 >>= (λ to. operand p s i f d 1 >>= (λ from. pointer to >>= (λ q. loaded s i q >>= (λ _. pointer from >>= (λ r. loaded s i r >>= (λ v. Ok (sets q v)))))))
