use Rattle.std.proofs.Common.{◌∙◌, ap}
use Rattle.spv_types.specs.Types.{Types}
use Rattle.spv_consts.specs.Trees.{value_at}
use Rattle.spv_initial.proofs.SuitLemmas.{if_ok, initializer_leaves, initializer_suits}
use Rattle.spv_initial.proofs.constants.initialized.Goals as goal

pub variable-requires : goal.variable-requires
variable-requires c =
    rw c.types-types.ensures (initializer_leaves c.args.accepted.now c.args.declared.now (record { ty = c.in-Some.row.ty; cells = c.in-Some.row.cells.now }) c.insts-insts.ensures.valid c.in-Some.ensures)

pub returns-in-Some-clause-suits : goal.returns-in-Some-clause-suits
returns-in-Some-clause-suits c =
    if_ok c.variable.result (λ v is. initializer_suits c.args.accepted.now c.args.declared.now (record { ty = c.in-Some.row.ty; cells = c.in-Some.row.cells.now }) v c.insts-insts.ensures.valid
    c.in-Some.ensures (is ∙ ap (λ (ts : Types). value_at ts c.in-Some.row.ty c.in-Some.row.cells.now) c.types-types.ensures)) c.variable.ensures
