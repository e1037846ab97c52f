-- Choices between two values or two pointers (SPIR-V 1.6 section 3.42.15, OpSelect). Where an operand has no value that is looked for first.
use Rattle.std.specs.Prelude.{ℕ, ◌==◌, if◌then◌else◌, Option, Some, None, Result, Ok, Err}
use Rattle.spv_base.specs.Cell.{Cell}
use Rattle.spv_base.specs.declared.instructions.Inst.{Inst}
use Rattle.spv_base.specs.declared.values.Pointer.{Pointer}
use Rattle.spv_base.specs.declared.values.Value.{Value, out-Value}
use Rattle.spv_valid.specs.Below.spv_ops.specs.Steps.{◌>>=◌}
use Rattle.spv_effects.specs.Lanes.{lane_of}
use Rattle.spv_frame.specs.Frames.{Held as Frame}
use Rattle.spv_state.specs.Program.{Program}
use Rattle.spv_state.specs.State.{State}
use Rattle.spv_valid.specs.Below.spv_types.specs.Shapes.{pointer_in}
use Rattle.spv_sites.specs.Computing.{compute_effect}
use Rattle.spv_sites.specs.Effects.{Effect, gives, operand}
use Rattle.spv_sites.specs.declared.causes.Cause.{Cause}
use Rattle.spv_sites.specs.declared.causes.Cause.TheVariants.{UndefinedIndex}

-- the first of two pointers by a condition that is true, 1, and the second by one that is false, 0; F2 where it is undefined
abbrev pub chosen : Cell → Value → Value → Result Effect Cause
chosen c x y = if c.defined then Ok (gives (if c.bits == 0 then y else x)) else Err UndefinedIndex

-- Of objects of which the first is a pointer, or none. In an accepted module both have one type (instructions_keep_their_rules of spv_bodies), and
-- the condition of pointers is a Boolean scalar, so the cell of width 0 that `lane_of` gives otherwise is never read.
abbrev pub selected : Program → State → ℕ → Frame → Inst → Value → Value → Value → Option Pointer → Result Effect Cause
selected p s i f d c x y None = compute_effect p s i f d
selected p s i f d c x y (Some q) = chosen (lane_of c) x y

-- OpSelect (condition, object of true, object of false)
abbrev pub select_effect : Program → State → ℕ → Frame → Inst → Result Effect Cause
select_effect p s i f d =
    operand p s i f d 0 >>= (λ c. operand p s i f d 1 >>= (λ x. operand p s i f d 2 >>= (λ y. selected p s i f d c x y (pointer_in (out-Value x)))))
