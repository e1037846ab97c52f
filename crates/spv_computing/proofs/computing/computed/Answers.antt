use Rattle.std.proofs.Common.{◌≡◌, Err, rules, subst}
use Rattle.spv_types.specs.Laws.{AreSound}
use Rattle.spv_valid.specs.Acceptance.{Accepted}
use Rattle.spv_results.proofs.Exports.{sound_types}
use Rattle.spv_sites.proofs.Exports.{computed_due, computed_fault, gain_fits, gain_taken, gain_rooted}
use Rattle.spv_computing.proofs.computing.computed.Goals as goal

pub returns-in_err-gain-clause-due : goal.returns-in_err-gain-clause-due
returns-in_err-gain-clause-due c =
    let same : c.from_residual.result ≡ Err c.in_err-gain.field-0.0 = search rules in
    computed_fault c.args.site.now c.args.computation c.gain.new.row c.from_residual.result c.in_err-gain.field-0.0 c.requires.due c.requires.operation c.in_err-gain.ensures same

pub returns-clause-due : goal.returns-clause-due
returns-clause-due c = computed_due c.args.site.now c.args.computation c.in_ok-gain.gain c.gain.new.row c.requires.due c.requires.operation c.in_ok-gain.ensures

pub returns-clause-fits : goal.returns-clause-fits
returns-clause-fits c =
    let sound = subst (λ (a : Accepted). AreSound a.types) c.accepted.ensures (sound_types c.accepted.result.now c.insts-insts.ensures.valid) in
    record { store = tt; result = gain_fits c.args.site.now c.in_ok-gain.gain c.gain.new.row sound c.in_ok-gain.ensures.1; control = c.is_kept.ensures.next; rooted = gain_rooted c.args.site.now c.in_ok-gain.gain c.gain.new.row sound c.in_ok-gain.ensures.1; passed = tt }

pub returns-clause-taken : goal.returns-clause-taken
returns-clause-taken c =
    let sound = subst (λ (a : Accepted). AreSound a.types) c.accepted.ensures (sound_types c.accepted.result.now c.insts-insts.ensures.valid) in
    gain_taken c.args.site.now c.in_ok-gain.gain c.gain.new.row sound c.in_ok-gain.ensures.1
