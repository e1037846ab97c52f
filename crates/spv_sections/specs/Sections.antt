-- The order of the sections of a module (SPIR-V 1.6 section 2.4, Logical Layout of a Module).
-- This project's profile: lines and instructions with no meaning at run time may stand among the types, in functions and
-- between functions, and OpNop may stand in blocks alone.
use Rattle.std.specs.Prelude.{ℕ, Bool, true, false, List, [], ◌∷◌, ◌++◌, ◌&&◌, ◌||◌, nat_le, nat_lt, if◌then◌else◌, unwrap_or, Result}
use Rattle.std.specs.List.{list_all}
use Rattle.spv_base.specs.Entries.{reads}
use Rattle.spv_base.specs.declared.instructions.Inst.{Inst}
use Rattle.spv_base.specs.declared.causes.Refusal.{Refusal}
use Rattle.spv_index.specs.declared.classes.Class.{Class}
use Rattle.spv_index.specs.declared.classes.Class.TheVariants.{Function as Beginning, Parameter, End, Label, Line as Passing, Phi, Variable, Terminator, Passed, Executable}
use Rattle.spv_index.specs.declared.positions.Stage.{Stage}
use Rattle.spv_index.specs.Positions.{Stand, in_block, in_function, stands_of}
use Rattle.spv_types.specs.Build.{unless_refused}
use Rattle.spv_types.specs.InterfaceBlocks.{nothing}
use Rattle.spv_sections.specs.declared.sections.Part.{Part}
use Rattle.spv_sections.specs.declared.sections.Part.TheVariants.{Capability, Extension, Import, MemoryModel, EntryPoint, ExecutionMode, Debug, Decoration, Declaration, Value, Line, Nop, Function, Body}

-- the code of the order of sections
abbrev pub order_code : ℕ
order_code = 10

-- What an instruction is to the order of sections, by opcode. Every other opcode is of the body of a function.
abbrev pub parts : List (ℕ × Part)
parts =
    (17, Capability) ∷ (10, Extension) ∷ (11, Import) ∷ (14, MemoryModel) ∷ (15, EntryPoint) ∷ (16, ExecutionMode) ∷ (331, ExecutionMode)
    ∷ (2, Debug) ∷ (3, Debug) ∷ (4, Debug) ∷ (5, Debug) ∷ (6, Debug) ∷ (7, Debug) ∷ (330, Debug) ∷ (71, Decoration) ∷ (72, Decoration)
    ∷ (19, Declaration) ∷ (20, Declaration) ∷ (21, Declaration) ∷ (23, Declaration) ∷ (28, Declaration) ∷ (29, Declaration) ∷ (30, Declaration) ∷ (32, Declaration) ∷ (33, Declaration)
    ∷ (41, Declaration) ∷ (42, Declaration) ∷ (43, Declaration) ∷ (44, Declaration) ∷ (46, Declaration) ∷ (48, Declaration) ∷ (49, Declaration) ∷ (50, Declaration) ∷ (51, Declaration) ∷ (52, Declaration)
    ∷ (1, Value) ∷ (59, Value) ∷ (54, Function) ∷ (0, Nop) ∷ []

-- a line, or an instruction of a set with no meaning at run time
abbrev pub is_line : Class → Bool
is_line Passing = true
is_line _ = false

abbrev pub part_by : ℕ → Part
part_by op = unwrap_or (reads op parts) Body

abbrev pub part_of : Class → ℕ → Part
part_of class op = if is_line class then Line else part_by op

-- the number of the section that an instruction belongs to: the functions are the last one
abbrev pub rank : Part → ℕ
rank Capability = 0
rank Extension = 1
rank Import = 2
rank MemoryModel = 3
rank EntryPoint = 4
rank ExecutionMode = 5
rank Debug = 6
rank Decoration = 7
rank Declaration = 8
rank Value = 8
rank Line = 8
rank Function = 9
rank Nop = 9
rank Body = 9

-- what a stand is to the order of sections
abbrev pub part_at : Stand → Part
part_at s = part_of s.class s.inst.op

-- the body of a function stands in one, and OpNop in a block
abbrev pub fits_stage : Stage → Part → Bool
fits_stage stage Nop = in_block stage
fits_stage stage Body = in_function stage
fits_stage stage other = true

-- An instruction may stand behind another one, which is of no later section. There is one memory model. A variable and an
-- undefined value may stand in a function too.
abbrev pub may_follow : Stage → Part → ℕ → Bool
may_follow stage Capability earlier = nat_le earlier (rank Capability)
may_follow stage Extension earlier = nat_le earlier (rank Extension)
may_follow stage Import earlier = nat_le earlier (rank Import)
may_follow stage MemoryModel earlier = nat_lt earlier (rank MemoryModel)
may_follow stage EntryPoint earlier = nat_le earlier (rank EntryPoint)
may_follow stage ExecutionMode earlier = nat_le earlier (rank ExecutionMode)
may_follow stage Debug earlier = nat_le earlier (rank Debug)
may_follow stage Decoration earlier = nat_le earlier (rank Decoration)
may_follow stage Declaration earlier = nat_le earlier (rank Declaration)
may_follow stage Value earlier = in_function stage || nat_le earlier (rank Value)
may_follow stage Line earlier = true
may_follow stage Function earlier = true
may_follow stage Nop earlier = true
may_follow stage Body earlier = true

-- an instruction may stand where it does, behind these
abbrev pub may_stand : List Stand → Stand → Bool
may_stand before s =
    fits_stage s.position.stage (part_at s) && list_all (λ t. may_follow s.position.stage (part_at s) (rank (part_at t))) before

abbrev pub order_breach : Inst → Refusal
order_breach inst = record { code = order_code; word = inst.word }

-- the refusals of instructions that stand behind these
unfoldable pub order_breaches_behind : List Stand → List Stand → List Refusal
order_breaches_behind before [] = []
order_breaches_behind before (s ∷ more) =
    (if may_stand before s then [] else order_breach s.inst ∷ []) ++ order_breaches_behind (before ++ s ∷ []) more

abbrev pub order_breaches : List Inst → List Refusal
order_breaches insts = order_breaches_behind [] (stands_of insts)

-- nothing, where the sections of a module are in order, or the first breach
unfoldable pub sections_of : List Inst → Result (Unit {0}) Refusal
sections_of insts = unless_refused nothing (order_breaches insts)
