-- The lengths of runtime arrays (SPIR-V 1.6 section 3.42.8, OpArrayLength).
use Rattle.std.specs.Prelude.{ℕ, if◌then◌else◌, Bool, true, false, Option, None, Result, Ok, ok_or}
use Rattle.std.specs.Option.{option_and_then, option_map}
use Rattle.spv_base.specs.Cell.{defined_cell}
use Rattle.spv_base.specs.declared.instructions.Inst.{Inst}
use Rattle.spv_base.specs.declared.values.Pointer.{Pointer}
use Rattle.spv_base.specs.declared.values.Root.{Root}
use Rattle.spv_base.specs.declared.values.Root.TheVariants.{Shared, Private, Local}
use Rattle.spv_base.specs.declared.values.Value.{Value, Scalar}
use Rattle.spv_valid.specs.Below.spv_ops.specs.Steps.{◌>>=◌}
use Rattle.spv_index.specs.Operands.{literal_operand}
use Rattle.spv_mem.specs.Memory.{load_of, member_of}
use Rattle.spv_mem.specs.Targets.{count_in}
use Rattle.spv_frame.specs.Frames.{Held as Frame}
use Rattle.spv_state.specs.Program.{Program}
use Rattle.spv_state.specs.State.{State}
use Rattle.spv_sites.specs.Effects.{Effect, gives, operand, pointer}
use Rattle.spv_sites.specs.declared.causes.Cause.{Cause}
use Rattle.spv_sites.specs.declared.causes.Cause.TheVariants.{OutOfBounds}

-- a variable that the workgroup shares; no other one has a runtime array
abbrev pub is_shared : Root → Bool
is_shared (Shared id) = true
is_shared (Private id) = false
is_shared (Local depth id) = false

-- how many elements the runtime array has in memory that is a member of the block which a pointer names
abbrev pub elements_at : State → ℕ → Pointer → ℕ → Option ℕ
elements_at s i q member = if is_shared q.root then option_map count_in (load_of s.memory i (member_of q member)) else None

-- the number of elements of the member that the instruction names, where its first operand has a value; F3 where that names no part of
-- memory, as for a load
abbrev pub length_of : State → ℕ → Inst → Value → Result ℕ Cause
length_of s i d at = pointer at >>= (λ q. ok_or (option_and_then (elements_at s i q) (literal_operand d 1)) OutOfBounds)

-- OpArrayLength (pointer to the block, number of the member): an integer of 32 bits
abbrev pub length_effect : Program → State → ℕ → Frame → Inst → Result Effect Cause
length_effect p s i f d = operand p s i f d 0 >>= (λ at. length_of s i d at >>= (λ n. Ok (gives (Scalar (defined_cell 32 n)))))
