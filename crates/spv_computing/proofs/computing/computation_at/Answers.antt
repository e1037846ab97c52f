use Rattle.std.proofs.Common.{◌∙◌, ap, sym}
use Rattle.spv_results.specs.Computations.{computation_of}
use Rattle.spv_computing.proofs.ActionLemmas.{computes_there}
use Rattle.spv_computing.proofs.computing.computation_at.Goals as goal

pub unreachable-requires : goal.unreachable-requires
unreachable-requires c =
    computes_there c.args.site.now c.accepted.result.now c.accepted.ensures c.insts-insts.ensures.accepted c.insts-insts.ensures.valid c.is_reached.ensures c.requires
    (ap computation_of (sym c.inst.ensures) ∙ sym c.of.ensures ∙ c.in-None.is)
