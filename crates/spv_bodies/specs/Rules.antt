-- The rule that each opcode has in a function body (SPIR-V 1.6 sections 3.42.1 and 3.42.8 to 3.42.20).
use Rattle.std.specs.Prelude.{ℕ, [], ◌∷◌, Option, unwrap_or}
use Rattle.std.specs.Option.{option_map_or}
use Rattle.spv_base.specs.Entries.{reads}
use Rattle.spv_bodies.specs.declared.rules.Rule.{Rule}
use Rattle.spv_bodies.specs.declared.rules.Rule.TheVariants.{Free, Lanes, Select, Extended, Memory, Atomic, Composite, Control}
use Rattle.spv_bodies.specs.declared.rules.MemoryRule.{MemoryRule}
use Rattle.spv_bodies.specs.declared.rules.MemoryRule.TheVariants.{Undef, Variable, Load, Store, CopyMemory, ArrayLength, Chain, PtrChain, PtrEqual}
use Rattle.spv_bodies.specs.declared.rules.AtomicRule.{AtomicRule}
use Rattle.spv_bodies.specs.declared.rules.AtomicRule.TheVariants.{Read, Store as AtomicStore, Update, Compare, ControlBarrier, MemoryBarrier}
use Rattle.spv_bodies.specs.declared.rules.CompositeRule.{CompositeRule}
use Rattle.spv_bodies.specs.declared.rules.CompositeRule.TheVariants.{ExtractDynamic, InsertDynamic, Shuffle, Construct, Extract, Insert, CopyObject, CopyLogical}
use Rattle.spv_bodies.specs.declared.rules.ControlRule.{ControlRule}
use Rattle.spv_bodies.specs.declared.rules.ControlRule.TheVariants.{Phi, Branch, Switch, Return, ReturnValue, Function, Parameter, Call}

unfoldable pub memory_rule : ℕ → Option MemoryRule
memory_rule op = reads op
    ((1, Undef) ∷ (59, Variable) ∷ (61, Load) ∷ (62, Store) ∷ (63, CopyMemory) ∷ (65, Chain) ∷ (66, Chain) ∷ (67, PtrChain) ∷ (68, ArrayLength)
    ∷ (401, PtrEqual) ∷ (402, PtrEqual) ∷ [])

-- the operations with a value are AtomicExchange 229 and those from AtomicIAdd 234 to AtomicXor 242
unfoldable pub atomic_rule : ℕ → Option AtomicRule
atomic_rule op = reads op
    ((224, ControlBarrier) ∷ (225, MemoryBarrier) ∷ (227, Read) ∷ (228, AtomicStore) ∷ (229, Update) ∷ (230, Compare)
    ∷ (232, Read) ∷ (233, Read) ∷ (234, Update) ∷ (235, Update) ∷ (236, Update) ∷ (237, Update)
    ∷ (238, Update) ∷ (239, Update) ∷ (240, Update) ∷ (241, Update) ∷ (242, Update) ∷ [])

unfoldable pub composite_rule : ℕ → Option CompositeRule
composite_rule op = reads op
    ((77, ExtractDynamic) ∷ (78, InsertDynamic) ∷ (79, Shuffle) ∷ (80, Construct) ∷ (81, Extract) ∷ (82, Insert) ∷ (83, CopyObject)
    ∷ (400, CopyLogical) ∷ [])

unfoldable pub control_rule : ℕ → Option ControlRule
control_rule op = reads op
    ((54, Function) ∷ (55, Parameter) ∷ (57, Call) ∷ (245, Phi) ∷ (250, Branch) ∷ (251, Switch) ∷ (253, Return)
    ∷ (254, ReturnValue) ∷ [])

-- Nop 0, Line 8, FunctionEnd 56, LoopMerge 246, SelectionMerge 247, Label 248, Branch 249, Unreachable 255 and NoLine 317 keep their rule
-- wherever they stand; ExtInst is 12, and Select 169. Every other opcode is lane-wise: one without a rule of types is kept by no instruction.
unfoldable pub other_rule : ℕ → Rule
other_rule op =
    unwrap_or (reads op
    ((0, Free) ∷ (8, Free) ∷ (12, Extended) ∷ (56, Free) ∷ (169, Select) ∷ (246, Free) ∷ (247, Free) ∷ (248, Free) ∷ (249, Free) ∷ (255, Free) ∷ (317, Free) ∷ [])) Lanes

abbrev pub rule_of : ℕ → Rule
rule_of op =
    option_map_or Memory (memory_rule op) (option_map_or Control (control_rule op) (option_map_or Composite (composite_rule op)
    (option_map_or Atomic (atomic_rule op) (other_rule op))))
