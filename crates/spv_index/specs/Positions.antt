-- Where each instruction stands: in which function and which block, and how far this block has come (SPIR-V 1.6 section 2.4).
use Rattle.std.specs.Prelude.{ℕ, Bool, true, false, List, [], ◌∷◌, if◌then◌else◌, Option, None, find}
use Rattle.spv_base.specs.declared.instructions.Inst.{Inst}
use Rattle.spv_index.specs.declared.classes.Class.{Class}
use Rattle.spv_index.specs.declared.classes.Class.TheVariants.{Function, Parameter, End, Label, Line, Phi, Variable, Terminator, Passed, Executable}
use Rattle.spv_index.specs.declared.positions.Stage.{Stage}
use Rattle.spv_index.specs.declared.positions.Stage.TheVariants.{Outside, Head, Phis, Variables, Body, Between}
use Rattle.spv_index.specs.declared.positions.Position.{Position}
use Rattle.spv_index.specs.declared.positions.Standing.{Standing}
use Rattle.spv_index.specs.Definitions.{has_result, is_id}
use Rattle.spv_index.specs.Classes.{class_of, sets_of}

abbrev pub in_block : Stage → Bool
in_block Phis = true
in_block Variables = true
in_block Body = true
in_block _ = false

abbrev pub in_function : Stage → Bool
in_function Outside = false
in_function _ = true

-- before the first block of the function
abbrev pub is_head : Stage → Bool
is_head Head = true
is_head _ = false

-- phis alone came before it in the block, with lines
abbrev pub among_phis : Stage → Bool
among_phis Phis = true
among_phis _ = false

-- phis and variables alone came before it in the block, with lines
abbrev pub among_variables : Stage → Bool
among_variables Phis = true
among_variables Variables = true
among_variables _ = false

-- the stage behind an instruction
abbrev pub stage_after : Class → Stage → Stage
stage_after Function stage = Head
stage_after Parameter stage = stage
stage_after End stage = Outside
stage_after Label stage = if in_function stage then Phis else stage
stage_after Line stage = stage
stage_after Phi stage = stage
stage_after Variable stage = if among_variables stage then Variables else stage
stage_after Terminator stage = if in_block stage then Between else stage
stage_after Passed stage = if in_block stage then Body else stage
stage_after Executable stage = if in_block stage then Body else stage

-- the function that an OpFunction begins
abbrev pub begins : Inst → Position
begins inst = record { stage = Head; function = inst.id; function_word = inst.word; label = 0; block_word = 0; first = false }

-- the block that an OpLabel begins
abbrev pub begins_block : Position → Inst → Position
begins_block position inst = record position { stage = Phis; label = inst.id; block_word = inst.word; first = is_head position.stage }

abbrev pub position_after : Position → Class → Inst → Position
position_after position Function inst = begins inst
position_after position Label inst = if in_function position.stage then begins_block position inst else position
position_after position class inst = record position { stage = stage_after class position.stage }

-- before the first instruction
abbrev pub outside : Position
outside = record { stage = Outside; function = 0; function_word = 0; label = 0; block_word = 0; first = false }

-- an instruction, what it is, and where it stands
pub record Stand : Type 0 where
  pub position : Position
  pub class : Class
  pub inst : Inst

-- where an instruction stands, and what it is there
abbrev pub standing : Stand → Standing
standing s = record { position = s.position; class = s.class }

-- instructions, of which the first stands at a position
abbrev pub stands : List (ℕ × Bool) → Position → List Inst → List Stand
stands sets position [] = []
stands sets position (inst ∷ insts) =
    record { position = position; class = class_of sets inst; inst = inst } ∷ stands sets (position_after position (class_of sets inst) inst) insts

-- the position behind all of them
abbrev pub position_behind : List (ℕ × Bool) → Position → List Inst → Position
position_behind sets position [] = position
position_behind sets position (inst ∷ insts) = position_behind sets (position_after position (class_of sets inst) inst) insts

-- the instructions of a module, each with what it is and where it stands
abbrev pub stands_of : List Inst → List Stand
stands_of insts = stands (sets_of insts) outside insts

-- the stand of the instruction that defines an id
unfoldable pub stand_of : List Inst → ℕ → Option Stand
stand_of insts id = if is_id id then find (λ s. has_result id s.inst) (stands_of insts) else None
