-- Pointers that are compared (SPIR-V 1.6 section 3.42.8, OpPtrEqual and OpPtrNotEqual). Where an operand has no value that is looked for first.
use Rattle.std.specs.Prelude.{ℕ, ◌==◌, ◌&&◌, not, nat_eq, Bool, false, Result, Ok}
use Rattle.std.specs.Cmp.Lexicographic.{pointwise}
use Rattle.spv_state.specs.Below.spv_alu.specs.Results.{truth}
use Rattle.spv_base.specs.declared.instructions.Inst.{Inst}
use Rattle.spv_base.specs.declared.values.Pointer.{Pointer}
use Rattle.spv_base.specs.declared.values.Root.{Root}
use Rattle.spv_base.specs.declared.values.Root.TheVariants.{Shared, Private, Local}
use Rattle.spv_base.specs.declared.values.Value.{Scalar}
use Rattle.spv_valid.specs.Below.spv_ops.specs.Steps.{◌>>=◌}
use Rattle.spv_frame.specs.Frames.{Held as Frame}
use Rattle.spv_state.specs.Program.{Program}
use Rattle.spv_state.specs.State.{State}
use Rattle.spv_sites.specs.Effects.{Effect, gives, operand, pointer}
use Rattle.spv_sites.specs.declared.causes.Cause.{Cause}

abbrev pub same_root : Root → Root → Bool
same_root (Shared id) (Shared other) = id == other
same_root (Private id) (Private other) = id == other
same_root (Local depth id) (Local at other) = (depth == at) && (id == other)
same_root _ _ = false

-- two pointers are equal where their roots and their paths are
abbrev pub are_equal : Pointer → Pointer → Bool
are_equal q r = same_root q.root r.root && pointwise nat_eq q.path r.path

-- what a test of two pointers, the operands, gives: a Boolean
abbrev pub compared : Program → State → ℕ → Frame → Inst → (Pointer → Pointer → Bool) → Result Effect Cause
compared p s i f d test =
    operand p s i f d 0 >>= (λ a. operand p s i f d 1 >>= (λ b. pointer a >>= (λ q. pointer b >>= (λ r. Ok (gives (Scalar (truth (test q r))))))))

-- OpPtrEqual (two pointers)
abbrev pub ptr_equal_effect : Program → State → ℕ → Frame → Inst → Result Effect Cause
ptr_equal_effect p s i f d = compared p s i f d are_equal

-- OpPtrNotEqual (two pointers)
abbrev pub ptr_not_equal_effect : Program → State → ℕ → Frame → Inst → Result Effect Cause
ptr_not_equal_effect p s i f d = compared p s i f d (λ q r. not (are_equal q r))
