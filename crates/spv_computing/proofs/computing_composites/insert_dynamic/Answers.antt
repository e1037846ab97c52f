use Rattle.spv_results.specs.Operands.{known}
use Rattle.spv_computing.proofs.CompositeLemmas.{insert_dynamic_data}
use Rattle.std.proofs.Common.{subst}
use Rattle.spv_types.specs.Laws.{AreSound}
use Rattle.spv_valid.specs.Acceptance.{Accepted}
use Rattle.spv_results.proofs.Exports.{sound_types}
use Rattle.spv_computing.proofs.computing_composites.insert_dynamic.Goals as goal

pub value-requires : goal.value-requires
value-requires c = (insert_dynamic_data (known c.args.site.now.program.accepted) c.args.site.now.inst (subst (λ (a : Accepted). AreSound a.types) c.accepted.ensures (sound_types c.accepted.result.now c.insts-insts.ensures.valid)) c.requires).0

pub value-requires-2 : goal.value-requires-2
value-requires-2 c = (insert_dynamic_data (known c.args.site.now.program.accepted) c.args.site.now.inst (subst (λ (a : Accepted). AreSound a.types) c.accepted.ensures (sound_types c.accepted.result.now c.insts-insts.ensures.valid)) c.requires).1

pub value-requires-3 : goal.value-requires-3
value-requires-3 c = (insert_dynamic_data (known c.args.site.now.program.accepted) c.args.site.now.inst (subst (λ (a : Accepted). AreSound a.types) c.accepted.ensures (sound_types c.accepted.result.now c.insts-insts.ensures.valid)) c.requires).2
