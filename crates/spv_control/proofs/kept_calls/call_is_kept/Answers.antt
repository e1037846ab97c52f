use Rattle.spv_control.proofs.CallLemmas.{call_is, call_known, call_names, call_passes}
use Rattle.spv_control.proofs.kept_calls.call_is_kept.Goals as goal

pub returns-clause-names : goal.returns-clause-names
returns-clause-names c = call_names c.args.site.now c.accepted.result.now c.accepted.ensures c.insts-insts.ensures.accepted c.insts-insts.ensures.valid c.is_reached.ensures c.requires

pub returns-clause-known : goal.returns-clause-known
returns-clause-known c = call_known c.args.site.now c.accepted.result.now c.accepted.ensures c.insts-insts.ensures.accepted c.insts-insts.ensures.valid c.is_reached.ensures c.requires

pub returns-clause-passes : goal.returns-clause-passes
returns-clause-passes c = call_passes c.args.site.now c.accepted.result.now c.accepted.ensures c.insts-insts.ensures.accepted c.insts-insts.ensures.valid c.is_reached.ensures c.requires

pub returns-clause-call : goal.returns-clause-call
returns-clause-call c = call_is c.args.site.now c.accepted.result.now c.accepted.ensures c.insts-insts.ensures.accepted c.insts-insts.ensures.valid c.is_reached.ensures c.requires
