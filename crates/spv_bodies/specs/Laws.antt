-- What the bodies of an accepted module give.
use Rattle.std.specs.Prelude.{List}
use Rattle.std.specs.List.{All}
use Rattle.spv_base.specs.declared.instructions.Inst.{Inst}
use Rattle.spv_bodies.specs.Bodies.{KeepsBody}
use Rattle.spv_bodies.specs.Context.{Known}
use Rattle.spv_bodies.specs.Places.{placed}

-- Each instruction of the functions of a module keeps the rule of its opcode: its operands and its result are of the types that
-- the rule asks, and its result has no runtime array.
abbrev pub KeepRules : Known → List Inst → Type 0
KeepRules k insts = All (KeepsBody k) (placed insts)
