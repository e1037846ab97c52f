use Rattle.std.proofs.Common.{◌∙◌, subst, sym, Ok}
use Rattle.std.specs.Prelude.{IsSome}
use Rattle.spv_base.specs.declared.values.Value.{Value, out-Value}
use Rattle.spv_types.specs.Laws.{AreSound}
use Rattle.spv_types.specs.Shapes.{scalar_in}
use Rattle.spv_valid.specs.Acceptance.{Accepted}
use Rattle.spv_results.specs.Operands.{IsOperand}
use Rattle.spv_results.proofs.Exports.{sound_types}
use Rattle.spv_accesses.proofs.AtomicLemmas.{lane_scalar, scalar_operand}
use Rattle.spv_accesses.proofs.AtomicSteps.{found_is, scalar_ok}
use Rattle.spv_accesses.proofs.atomics.scalar.Goals as goal

pub cell_of-requires : goal.cell_of-requires
cell_of-requires c =
    subst (λ (v : Value). IsSome (scalar_in (out-Value v))) (sym c.part.ensures)
    (scalar_operand c.args.site.now.program.accepted c.args.site.now.inst c.args.n c.in_ok-datum.datum (subst (λ (a : Accepted). AreSound a.types) c.accepted.ensures (sound_types c.accepted.result.now c.insts-insts.ensures.valid)) c.requires c.in_ok-datum.ensures.shape)

pub returns-clause-value : goal.returns-clause-value
returns-clause-value c =
    scalar_ok c.args.site.now c.args.n c.in_ok-datum.datum c.cell_of.result (found_is c.args.site.now c.args.n (Ok c.in_ok-datum.datum) c.in_ok-datum.ensures.value) (lane_scalar c.in_ok-datum.datum c.cell_of.result (sym c.part.ensures ∙ c.cell_of.ensures))

pub returns-clause-shape : goal.returns-clause-shape
returns-clause-shape c =
    subst (λ (v : Value). IsOperand c.args.site.now.program.accepted c.args.site.now.inst c.args.n v) (sym c.part.ensures ∙ c.cell_of.ensures) c.in_ok-datum.ensures.shape
