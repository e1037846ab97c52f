use Rattle.std.proofs.Common.{◌≡◌, ◌++◌, drop}
use Rattle.std.specs.List.{flat_map}
use Rattle.spv_base.specs.declared.instructions.Operand.{Operand}
use Rattle.spv_index.specs.Operands.{id_in}
use Rattle.spv_consts.specs.State.{given_cells}
use Rattle.spv_consts.proofs.evaluation.constituents.Given as goal

-- the cells so far and those of the constituents that are left
abbrev pub invariant-loop-operand : goal.invariant-loop-operand
invariant-loop-operand l =
    l.cells.items ++ flat_map (λ (o : Operand). given_cells l.context l.walk (id_in o)) (drop l.operand-index l.operands)
    ≡ flat_map (λ (o : Operand). given_cells l.context l.walk (id_in o)) l.operands
