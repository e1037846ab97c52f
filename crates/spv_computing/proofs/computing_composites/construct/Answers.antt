use Rattle.std.proofs.Common.{subst}
use Rattle.spv_types.specs.Laws.{AreSound}
use Rattle.spv_valid.specs.Acceptance.{Accepted}
use Rattle.spv_results.specs.Operands.{known}
use Rattle.spv_results.proofs.Exports.{sound_types}
use Rattle.spv_computing.proofs.CompositeLemmas.{construct_data}
use Rattle.spv_computing.proofs.computing_composites.construct.Goals as goal

pub constituents-requires : goal.constituents-requires
constituents-requires c = construct_data (known c.args.site.now.program.accepted) c.args.site.now.inst (subst (λ (a : Accepted). AreSound a.types) c.accepted.ensures (sound_types c.accepted.result.now c.insts-insts.ensures.valid)) c.requires.rule
