-- What an instruction does when a run reaches it, by its opcode (SPIR-V 1.6 sections 3.42.8, 3.42.9, 3.42.17, 3.42.18 and 3.42.20), and those
-- that compute.
use Rattle.std.specs.Prelude.{ℕ, [], ◌∷◌, List, Option, unwrap_or}
use Rattle.std.specs.Option.{option_map, option_or}
use Rattle.spv_base.specs.Entries.{reads}
use Rattle.spv_base.specs.declared.instructions.Inst.{Inst}
use Rattle.spv_state.specs.declared.actions.Action.{Action}
use Rattle.spv_state.specs.declared.actions.Action.TheVariants.{Compute, Select, Load, Store, CopyMemory, Chain, PtrChain, PtrEqual, PtrNotEqual, ArrayLength, Branch, BranchConditional, Switch, Call, Return, ReturnValue, Unreachable, ControlBarrier, MemoryBarrier, Atomic}
use Rattle.spv_state.specs.declared.actions.AtomicOp.{AtomicOp}
use Rattle.spv_state.specs.declared.actions.AtomicOp.TheVariants as atomic

-- FunctionCall, Load, Store, CopyMemory, AccessChain and InBoundsAccessChain, PtrAccessChain, ArrayLength, Select, ControlBarrier,
-- MemoryBarrier, Branch, BranchConditional, Switch, Return, ReturnValue, Unreachable, PtrEqual, PtrNotEqual
abbrev pub action_rows : List (ℕ × Action)
action_rows =
    (57, Call) ∷ (61, Load) ∷ (62, Store) ∷ (63, CopyMemory) ∷ (65, Chain) ∷ (66, Chain) ∷ (67, PtrChain) ∷ (68, ArrayLength) ∷ (169, Select) ∷ (224, ControlBarrier) ∷ (225, MemoryBarrier)
    ∷ (249, Branch) ∷ (250, BranchConditional) ∷ (251, Switch) ∷ (253, Return) ∷ (254, ReturnValue) ∷ (255, Unreachable)
    ∷ (401, PtrEqual) ∷ (402, PtrNotEqual) ∷ []

-- AtomicLoad to AtomicXor
abbrev pub atomics : List (ℕ × AtomicOp)
atomics =
    (227, atomic.Load) ∷ (228, atomic.Store) ∷ (229, atomic.Exchange) ∷ (230, atomic.CompareExchange) ∷ (232, atomic.Increment) ∷ (233, atomic.Decrement) ∷ (234, atomic.Add)
    ∷ (235, atomic.Sub) ∷ (236, atomic.SMin) ∷ (237, atomic.UMin) ∷ (238, atomic.SMax) ∷ (239, atomic.UMax) ∷ (240, atomic.And) ∷ (241, atomic.Or) ∷ (242, atomic.Xor) ∷ []

unfoldable pub atomic_op : ℕ → Option AtomicOp
atomic_op op = reads op atomics

-- An instruction at which a run stops and that is none of these computes a value: in an accepted module each one does
-- (executables_are_actions of spv_computing).
unfoldable pub action_of : Inst → Action
action_of i = unwrap_or (option_or (reads i.op action_rows) (option_map Atomic (atomic_op i.op))) Compute
