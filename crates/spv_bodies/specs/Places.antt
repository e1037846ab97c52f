-- Where each instruction of the functions of a module stands: in which function, behind how many of its parameters, and before
-- which instructions (SPIR-V 1.6 section 2.4).
use Rattle.std.specs.Prelude.{suc, ◌==◌, if◌then◌else◌, List, [], ◌∷◌, length, drop, Some, None}
use Rattle.spv_base.specs.declared.instructions.Inst.{Inst}
use Rattle.spv_index.specs.Definitions.{before_functions}
use Rattle.spv_index.specs.Operands.{id_operand}
use Rattle.spv_bodies.specs.declared.within.Within.{Within}

pub record Placed : Type 0 where
  pub inst : Inst
  pub within : Within
  pub rest : List Inst  -- behind it

abbrev pub place : Inst → Within → List Inst → Placed
place inst within rest = record { inst = inst; within = within; rest = rest }

-- in no function
abbrev pub nowhere : Within
nowhere = record { returns = None; ty = None; parameters = 0 }

-- behind a Function 54 (control, function type), a FunctionParameter 55 or another instruction
abbrev pub within_after : Within → Inst → Within
within_after w i =
    if i.op == 54 then record { returns = Some i.ty; ty = id_operand i 1; parameters = 0 }
    else (if i.op == 55 then record w { parameters = suc w.parameters } else w)

-- instructions, of which the first stands in a function
abbrev pub placed_from : Within → List Inst → List Placed
placed_from w [] = []
placed_from w (i ∷ is) = place i w is ∷ placed_from (within_after w i) is

-- the instructions of a module from the first function on
abbrev pub placed : List Inst → List Placed
placed insts = placed_from nowhere (drop (length (before_functions insts)) insts)
