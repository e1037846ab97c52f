-- What each instruction does, a row an action.
use Rattle.std.specs.Prelude.{ℕ, None, Result, Ok, Err}
use Rattle.spv_base.specs.declared.instructions.Inst.{Inst}
use Rattle.spv_frame.specs.Frames.{Held as Frame}
use Rattle.spv_state.specs.Actions.{action_of}
use Rattle.spv_state.specs.Program.{Program}
use Rattle.spv_state.specs.State.{State}
use Rattle.spv_state.specs.declared.actions.Action.{Action}
use Rattle.spv_state.specs.declared.actions.Action.TheVariants.{Compute, Select, Load, Store, CopyMemory, Chain, PtrChain, PtrEqual, PtrNotEqual, ArrayLength, Branch, BranchConditional, Switch, Call, Return, ReturnValue, Unreachable, ControlBarrier, MemoryBarrier, Atomic}
use Rattle.spv_sites.specs.Calls.{call_effect, return_effect}
use Rattle.spv_sites.specs.Accesses.{copy_memory_effect, load_effect, store_effect}
use Rattle.spv_sites.specs.Chains.{chain_effect, ptr_chain_effect}
use Rattle.spv_sites.specs.Computing.{compute_effect}
use Rattle.spv_sites.specs.Pointers.{ptr_equal_effect, ptr_not_equal_effect}
use Rattle.spv_sites.specs.Selects.{select_effect}
use Rattle.spv_sites.specs.Branches.{branch_conditional_effect, branch_effect, switch_effect}
use Rattle.spv_sites.specs.Atomics.{atomic_effect}
use Rattle.spv_sites.specs.Barriers.{control_barrier_effect, memory_barrier_effect}
use Rattle.spv_sites.specs.Effects.{Effect, Leave, goes}
use Rattle.spv_sites.specs.Lengths.{length_effect}
use Rattle.spv_sites.specs.declared.causes.Cause.{Cause}
use Rattle.spv_sites.specs.declared.causes.Cause.TheVariants.{Unreachable as Stops}

abbrev pub row : Program → State → ℕ → Frame → Inst → Action → Result Effect Cause
row p s i f d Compute = compute_effect p s i f d
row p s i f d Select = select_effect p s i f d
row p s i f d Load = load_effect p s i f d
row p s i f d Store = store_effect p s i f d
row p s i f d CopyMemory = copy_memory_effect p s i f d
row p s i f d Chain = chain_effect p s i f d
row p s i f d PtrChain = ptr_chain_effect p s i f d
row p s i f d PtrEqual = ptr_equal_effect p s i f d
row p s i f d PtrNotEqual = ptr_not_equal_effect p s i f d
row p s i f d ArrayLength = length_effect p s i f d
row p s i f d Branch = branch_effect p s i f d
row p s i f d BranchConditional = branch_conditional_effect p s i f d
row p s i f d Switch = switch_effect p s i f d
row p s i f d Call = call_effect p s i f d
row p s i f d Return = Ok (goes (Leave None))
row p s i f d ReturnValue = return_effect p s i f d
row p s i f d Unreachable = Err Stops
row p s i f d ControlBarrier = control_barrier_effect p s i f d
row p s i f d MemoryBarrier = memory_barrier_effect p s i f d
row p s i f d (Atomic op) = atomic_effect p s i f d op

unfoldable pub effect_of : Program → State → ℕ → Frame → Inst → Result Effect Cause
effect_of p s i f d = row p s i f d (action_of d)
