-- The typing rules of function bodies, and the first instruction that breaks one. The instructions from the first OpFunction on
-- are looked at (SPIR-V 1.6 sections 2.4 and 2.16.1).
use Rattle.std.specs.Prelude.{◌≡◌, ◌&&◌, not, Bool, true, false, if◌then◌else◌, List, [], ◌∷◌, Result}
use Rattle.std.specs.List.{flat_map}
use Rattle.spv_base.specs.declared.causes.Refusal.{Refusal}
use Rattle.spv_base.specs.declared.instructions.Inst.{Inst}
use Rattle.spv_consts.specs.Table.{Constants}
use Rattle.spv_types.specs.InterfaceBlocks.{nothing}
use Rattle.spv_types.specs.Build.{unless_refused}
use Rattle.spv_types.specs.Rules.{has_runtime}
use Rattle.spv_types.specs.Types.{Types}
use Rattle.spv_bodies.specs.declared.rules.Rule.{Rule}
use Rattle.spv_bodies.specs.declared.rules.Rule.TheVariants.{Free, Lanes, Select, Extended, Memory, Atomic, Composite, Control}
use Rattle.spv_bodies.specs.declared.rules.MemoryRule.{MemoryRule}
use Rattle.spv_bodies.specs.declared.rules.MemoryRule.TheVariants.{Undef, Variable, Load, Store, CopyMemory, ArrayLength, Chain, PtrChain, PtrEqual}
use Rattle.spv_bodies.specs.declared.rules.AtomicRule.{AtomicRule}
use Rattle.spv_bodies.specs.declared.rules.AtomicRule.TheVariants.{Read, Store as AtomicStore, Update, Compare, ControlBarrier, MemoryBarrier}
use Rattle.spv_bodies.specs.declared.rules.CompositeRule.{CompositeRule}
use Rattle.spv_bodies.specs.declared.rules.CompositeRule.TheVariants.{ExtractDynamic, InsertDynamic, Shuffle, Construct, Extract, Insert, CopyObject, CopyLogical}
use Rattle.spv_bodies.specs.declared.rules.ControlRule.{ControlRule}
use Rattle.spv_bodies.specs.declared.rules.ControlRule.TheVariants.{Phi, Branch, Switch, Return, ReturnValue, Function, Parameter, Call}
use Rattle.spv_bodies.specs.Context.{Known, known_of}
use Rattle.spv_bodies.specs.Matching.{KeepsCopyLogical, keeps_copy_logical}
use Rattle.spv_bodies.specs.Atomics.{KeepsAtomicCompare, KeepsAtomicRead, KeepsAtomicStore, KeepsAtomicUpdate, KeepsControlBarrier, KeepsMemoryBarrier, keeps_atomic_compare, keeps_atomic_read, keeps_atomic_store, keeps_atomic_update, keeps_control_barrier, keeps_memory_barrier}
use Rattle.spv_bodies.specs.Calls.{KeepsCall, KeepsFunction, KeepsParameter, keeps_call, keeps_function, keeps_parameter}
use Rattle.spv_bodies.specs.Chains.{KeepsChain, keeps_chain}
use Rattle.spv_bodies.specs.Composites.{KeepsConstruct, KeepsCopyObject, KeepsExtract, KeepsExtractDynamic, KeepsInsert, KeepsInsertDynamic, KeepsShuffle, keeps_construct, keeps_copy_object, keeps_extract, keeps_extract_dynamic, keeps_insert, keeps_insert_dynamic, keeps_shuffle}
use Rattle.spv_bodies.specs.Control.{KeepsBranch, KeepsPhi, KeepsReturn, KeepsReturnValue, KeepsSwitch, keeps_branch, keeps_phi, keeps_return, keeps_return_value, keeps_switch}
use Rattle.spv_bodies.specs.Lanes.{KeepsExtended, KeepsLanes, keeps_extended, keeps_lanes}
use Rattle.spv_bodies.specs.Memory.{KeepsArrayLength, KeepsCopyMemory, KeepsLoad, KeepsStore, KeepsUndef, KeepsVariable, keeps_array_length, keeps_copy_memory, keeps_load, keeps_store, keeps_undef, keeps_variable}
use Rattle.spv_bodies.specs.Pointers.{KeepsPtrChain, KeepsPtrEqual, KeepsSelect, keeps_ptr_chain, keeps_ptr_equal, keeps_select}
use Rattle.spv_bodies.specs.Rules.{rule_of}
use Rattle.spv_bodies.specs.Places.{Placed, placed}

-- ---- the rules

abbrev pub KeepsMemory : Known → Inst → MemoryRule → Type 0
KeepsMemory k i Undef = KeepsUndef k i
KeepsMemory k i Variable = KeepsVariable k i
KeepsMemory k i Load = KeepsLoad k i
KeepsMemory k i Store = KeepsStore k i
KeepsMemory k i CopyMemory = KeepsCopyMemory k i
KeepsMemory k i ArrayLength = KeepsArrayLength k i
KeepsMemory k i Chain = KeepsChain k i
KeepsMemory k i PtrChain = KeepsPtrChain k i
KeepsMemory k i PtrEqual = KeepsPtrEqual k i

abbrev pub KeepsAtomic : Known → Inst → AtomicRule → Type 0
KeepsAtomic k i Read = KeepsAtomicRead k i
KeepsAtomic k i AtomicStore = KeepsAtomicStore k i
KeepsAtomic k i Update = KeepsAtomicUpdate k i
KeepsAtomic k i Compare = KeepsAtomicCompare k i
KeepsAtomic k i ControlBarrier = KeepsControlBarrier k i
KeepsAtomic k i MemoryBarrier = KeepsMemoryBarrier k i

abbrev pub KeepsComposite : Known → Inst → CompositeRule → Type 0
KeepsComposite k i ExtractDynamic = KeepsExtractDynamic k i
KeepsComposite k i InsertDynamic = KeepsInsertDynamic k i
KeepsComposite k i Shuffle = KeepsShuffle k i
KeepsComposite k i Construct = KeepsConstruct k i
KeepsComposite k i Extract = KeepsExtract k i
KeepsComposite k i Insert = KeepsInsert k i
KeepsComposite k i CopyObject = KeepsCopyObject k i
KeepsComposite k i CopyLogical = KeepsCopyLogical k i

abbrev pub KeepsControl : Known → Placed → ControlRule → Type 0
KeepsControl k p Phi = KeepsPhi k p.inst
KeepsControl k p Branch = KeepsBranch k p.inst
KeepsControl k p Switch = KeepsSwitch k p.inst
KeepsControl k p Return = KeepsReturn k p.within.returns
KeepsControl k p ReturnValue = KeepsReturnValue k p.within.returns p.inst
KeepsControl k p Function = KeepsFunction k p.inst p.rest
KeepsControl k p Parameter = KeepsParameter k p.within.ty p.within.parameters p.inst
KeepsControl k p Call = KeepsCall k p.inst

-- an instruction keeps a rule, where it stands
abbrev pub KeepsRule : Known → Placed → Rule → Type 0
KeepsRule k p Free = Unit {0}
KeepsRule k p Lanes = KeepsLanes k p.inst
KeepsRule k p Select = KeepsSelect k p.inst
KeepsRule k p Extended = KeepsExtended k p.inst
KeepsRule k p (Memory rule) = KeepsMemory k p.inst rule
KeepsRule k p (Atomic rule) = KeepsAtomic k p.inst rule
KeepsRule k p (Composite rule) = KeepsComposite k p.inst rule
KeepsRule k p (Control rule) = KeepsControl k p rule

-- its result has no runtime array, and its operands and its result are as the rule of its opcode asks
abbrev pub KeepsBody : Known → Placed → Type 0
KeepsBody k p = (has_runtime k.types p.inst.ty ≡ false) × KeepsRule k p (rule_of p.inst.op)

-- ---- the same as tests

abbrev pub keeps_memory : Known → Inst → MemoryRule → Bool
keeps_memory k i Undef = keeps_undef k i
keeps_memory k i Variable = keeps_variable k i
keeps_memory k i Load = keeps_load k i
keeps_memory k i Store = keeps_store k i
keeps_memory k i CopyMemory = keeps_copy_memory k i
keeps_memory k i ArrayLength = keeps_array_length k i
keeps_memory k i Chain = keeps_chain k i
keeps_memory k i PtrChain = keeps_ptr_chain k i
keeps_memory k i PtrEqual = keeps_ptr_equal k i

abbrev pub keeps_atomic : Known → Inst → AtomicRule → Bool
keeps_atomic k i Read = keeps_atomic_read k i
keeps_atomic k i AtomicStore = keeps_atomic_store k i
keeps_atomic k i Update = keeps_atomic_update k i
keeps_atomic k i Compare = keeps_atomic_compare k i
keeps_atomic k i ControlBarrier = keeps_control_barrier k i
keeps_atomic k i MemoryBarrier = keeps_memory_barrier k i

abbrev pub keeps_composite : Known → Inst → CompositeRule → Bool
keeps_composite k i ExtractDynamic = keeps_extract_dynamic k i
keeps_composite k i InsertDynamic = keeps_insert_dynamic k i
keeps_composite k i Shuffle = keeps_shuffle k i
keeps_composite k i Construct = keeps_construct k i
keeps_composite k i Extract = keeps_extract k i
keeps_composite k i Insert = keeps_insert k i
keeps_composite k i CopyObject = keeps_copy_object k i
keeps_composite k i CopyLogical = keeps_copy_logical k i

abbrev pub keeps_control : Known → Placed → ControlRule → Bool
keeps_control k p Phi = keeps_phi k p.inst
keeps_control k p Branch = keeps_branch k p.inst
keeps_control k p Switch = keeps_switch k p.inst
keeps_control k p Return = keeps_return k p.within.returns
keeps_control k p ReturnValue = keeps_return_value k p.within.returns p.inst
keeps_control k p Function = keeps_function k p.inst p.rest
keeps_control k p Parameter = keeps_parameter k p.within.ty p.within.parameters p.inst
keeps_control k p Call = keeps_call k p.inst

abbrev pub keeps : Known → Placed → Rule → Bool
keeps k p Free = true
keeps k p Lanes = keeps_lanes k p.inst
keeps k p Select = keeps_select k p.inst
keeps k p Extended = keeps_extended k p.inst
keeps k p (Memory rule) = keeps_memory k p.inst rule
keeps k p (Atomic rule) = keeps_atomic k p.inst rule
keeps k p (Composite rule) = keeps_composite k p.inst rule
keeps k p (Control rule) = keeps_control k p rule

unfoldable pub keeps_body : Known → Placed → Bool
keeps_body k p = not (has_runtime k.types p.inst.ty) && keeps k p (rule_of p.inst.op)

-- ---- the breaches

-- the code of the rules of types
abbrev pub breach : Inst → Refusal
breach i = record { code = 12; word = i.word }

abbrev pub body_breach : Known → Placed → List Refusal
body_breach k p = if keeps_body k p then [] else breach p.inst ∷ []

-- the breaches of some instructions
abbrev pub body_breaches : Known → List Placed → List Refusal
body_breaches k ps = flat_map (body_breach k) ps

-- nothing, where the functions of a module keep the rules, or the first breach
unfoldable pub bodies_of : Types → Constants → List Inst → Result (Unit {0}) Refusal
bodies_of ts cs insts = unless_refused nothing (body_breaches (known_of ts cs insts) (placed insts))
