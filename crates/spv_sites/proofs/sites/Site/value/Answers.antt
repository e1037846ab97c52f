use Rattle.std.proofs.Common.{subst}
use Rattle.spv_valid.specs.Below.spv_types.specs.Laws.{AreSound}
use Rattle.spv_valid.specs.Acceptance.{Accepted}
use Rattle.spv_operands.specs.Operands.{shown}
use Rattle.spv_state.specs.Below.spv_results.proofs.Exports.{sound_types}
use Rattle.spv_sites.proofs.OperandLemmas.{datum_plain, datum_shape}
use Rattle.spv_sites.proofs.sites.Site.value.Goals as goal

pub invariant_of-result : goal.invariant_of-result
invariant_of-result c =
    let sound = subst (λ (a : Accepted). AreSound a.types) c.accepted.ensures (sound_types c.accepted.result.now c.insts-insts.ensures.valid) in
    ∣ (c.in_ok-operand.ensures.plain, datum_plain c.args.self.now.program.accepted c.args.self.now.inst c.args.n (shown c.in_ok-operand.operand) sound c.requires c.in_ok-operand.ensures.shape) ∣₁

pub returns-clause-shape : goal.returns-clause-shape
returns-clause-shape c = datum_shape c.args.self.now.program.accepted c.args.self.now.inst c.args.n (shown c.in_ok-operand.operand) c.requires c.in_ok-operand.ensures.shape
