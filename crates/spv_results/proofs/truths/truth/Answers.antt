use Rattle.spv_results.proofs.TruthLemmas.{truth_shape}
use Rattle.spv_results.proofs.truths.truth.Goals as goal

pub returns-clause-shape : goal.returns-clause-shape
returns-clause-shape c =
    truth_shape c.args.accepted.now c.args.inst.now c.args.a.now c.any_all.new.into c.args.operation c.types_are_sound.ensures c.requires.operation c.requires.rule c.any_all.ensures.value
