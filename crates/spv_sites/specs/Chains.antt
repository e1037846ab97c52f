-- Access chains (SPIR-V 1.6 section 3.42.8, OpAccessChain, OpInBoundsAccessChain and OpPtrAccessChain). Where an operand has no value that is looked for
-- first, then an index that isn't defined; whether an index is in range is looked at by the access.
use Rattle.std.specs.Prelude.{ℕ, ◌-◌, if◌then◌else◌, List, ◌∷◌, length, Result, Ok, Err, ok_or}
use Rattle.std.specs.List.{flat_map, range_with_len}
use Rattle.std.specs.Option.{option_map}
use Rattle.spv_base.specs.Cell.{Cell}
use Rattle.spv_base.specs.declared.instructions.Inst.{Inst}
use Rattle.spv_base.specs.declared.values.Pointer.{Pointer}
use Rattle.spv_base.specs.declared.values.Value.{Value, Ptr}
use Rattle.spv_valid.specs.Below.spv_ops.specs.Steps.{◌>>=◌}
use Rattle.spv_valid.specs.Below.spv_types.specs.Rows.{leaves}
use Rattle.spv_mem.specs.Chains.{all_defined, extend, ptr_moved}
use Rattle.spv_mem.specs.Memory.{Held as Memory}
use Rattle.spv_frame.specs.Frames.{Held as Frame}
use Rattle.spv_operands.specs.Values.{operand_value}
use Rattle.spv_state.specs.Below.spv_results.specs.Results.{Operands, all_of}
use Rattle.spv_state.specs.Program.{Program}
use Rattle.spv_state.specs.State.{State, depth_of}
use Rattle.spv_sites.specs.Effects.{Effect, gives, operand, pointer, scalar}
use Rattle.spv_sites.specs.declared.causes.Cause.{Cause}
use Rattle.spv_sites.specs.declared.causes.Cause.TheVariants.{NoValue, OutOfBounds, UndefinedIndex}

-- the indexes of a chain are its operands from a number on: scalars, a cell each; F4 where one has no value
abbrev pub indexes_from : ℕ → Operands → Inst → Result (List Cell) Cause
indexes_from n v d = ok_or (option_map (flat_map leaves) (all_of v (range_with_len n (length d.operands - n)))) NoValue

abbrev pub indexes : Operands → Inst → Result (List Cell) Cause
indexes v d = indexes_from 1 v d

-- the pointer with further indexes, each read as signed, in 64 bits; F2 where one isn't defined
abbrev pub with_indexes : Pointer → List Cell → Result Pointer Cause
with_indexes q cs = if all_defined cs then Ok (record { root = q.root; path = extend q.path cs }) else Err UndefinedIndex

-- the same of the pointer that a value is
abbrev pub chained_pointer : Value → List Cell → Result Pointer Cause
chained_pointer v cs = pointer v >>= (λ q. with_indexes q cs)

-- OpAccessChain and OpInBoundsAccessChain (base, indexes)
abbrev pub chain_effect : Program → State → ℕ → Frame → Inst → Result Effect Cause
chain_effect p s i f d =
    operand p s i f d 0 >>= (λ base. indexes (operand_value p.accepted f (depth_of s i) d) d >>= (λ cs. chained_pointer base cs >>= (λ q. Ok (gives (Ptr q)))))

-- ---- from another element on

-- The pointer whose last index is further by an element, with further indexes. F2 where one of these isn't defined; then F3 where the element is
-- not 0 and the pointer has no last index that chooses an element of an array.
abbrev pub ptr_chained : Memory → Pointer → Cell → List Cell → Result Pointer Cause
ptr_chained m q e cs =
    if all_defined (e ∷ cs) then ok_or (option_map (λ path. record { root = q.root; path = extend path cs }) (ptr_moved m.types m.targets q e)) OutOfBounds
    else Err UndefinedIndex

-- OpPtrAccessChain (base, element, indexes)
abbrev pub ptr_chain_effect : Program → State → ℕ → Frame → Inst → Result Effect Cause
ptr_chain_effect p s i f d =
    operand p s i f d 0 >>= (λ base. scalar p s i f d 1 >>= (λ element. indexes_from 2 (operand_value p.accepted f (depth_of s i) d) d >>= (λ cs.
    pointer base >>= (λ q. ptr_chained s.memory q element cs >>= (λ r. Ok (gives (Ptr r)))))))
