-- Breaches of the order inside functions (SPIR-V 1.6 sections 2.4 and 2.16.1): parameters, blocks, terminators, variables and phis.
use Rattle.std.specs.Prelude.{ℕ, Bool, true, false, not, List, [], ◌∷◌, ◌++◌, ◌&&◌, if◌then◌else◌}
use Rattle.std.specs.List.{flat_map}
use Rattle.spv_base.specs.declared.instructions.Inst.{Inst}
use Rattle.spv_index.specs.declared.classes.Class.{Class}
use Rattle.spv_index.specs.declared.classes.Class.TheVariants.{Function, Parameter, End, Label, Line, Phi, Variable, Terminator, Passed, Executable}
use Rattle.spv_index.specs.declared.positions.Position.{Position}
use Rattle.spv_index.specs.Classes.{ends_block, sets_of}
use Rattle.spv_index.specs.Positions.{Stand, outside, position_after, position_behind, stands_of, in_block, in_function, is_head, among_phis, among_variables}

-- A block that has no terminator: the next label, or the end of the function, comes first. It stands at its OpLabel.
abbrev pub unended : Position → Class → List ℕ
unended position class = if ends_block class && in_block position.stage then position.block_word ∷ [] else []

-- A function without OpFunctionEnd, or without a block. It stands at its OpFunction.
abbrev pub is_lacking : Position → Class → Bool
is_lacking position Function = in_function position.stage
is_lacking position End = is_head position.stage
is_lacking position _ = false

abbrev pub lacking : Position → Class → List ℕ
lacking position class = if is_lacking position class then position.function_word ∷ [] else []

-- what may stand at a position in a function
abbrev pub may_stand : Position → Class → Bool
may_stand position Function = true
may_stand position Parameter = is_head position.stage
may_stand position End = true
may_stand position Label = true
may_stand position Line = true
may_stand position Phi = among_phis position.stage
may_stand position Variable = position.first && among_variables position.stage
may_stand position Terminator = in_block position.stage
may_stand position Passed = in_block position.stage
may_stand position Executable = in_block position.stage

abbrev pub misplaced : Stand → List ℕ
misplaced s = if in_function s.position.stage && not (may_stand s.position s.class) then s.inst.word ∷ [] else []

abbrev pub layout_breach : Stand → List ℕ
layout_breach s = unended s.position s.class ++ (lacking s.position s.class ++ misplaced s)

-- behind the last instruction a function has to have ended, as where another begins
abbrev pub unfinished : Position → List ℕ
unfinished position = unended position Function ++ lacking position Function

-- the position behind instructions, which stand so, where the one behind those before them is known
abbrev pub behind : Position → List Stand → Position
behind position [] = position
behind position (s ∷ more) = behind (position_after s.position s.class s.inst) more

abbrev pub layout_breaches : List Inst → List ℕ
layout_breaches insts = flat_map layout_breach (stands_of insts) ++ unfinished (position_behind (sets_of insts) outside insts)
