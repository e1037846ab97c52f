use Rattle.std.proofs.Common.{◌∙◌, ap, sym}
use Rattle.spv_base.specs.declared.happenings.Happening.{Happening}
use Rattle.spv_hits.specs.Halts.{halts_behind}
use Rattle.spv_hits.specs.Happenings.{lined}
use Rattle.spv_hits.specs.Hits.{has_some}
use Rattle.spv_hits.proofs.Exports.{none_set, none_there}
use Rattle.spv_session.proofs.following.WithProbes.halts.Goals as goal

pub returns-then-is_empty : goal.returns-then-is_empty
returns-then-is_empty g c = λ tests events follows.
    sym (ap has_some (none_set c.args.self.now.halts.now tests events c.args.more (lined c.args.module.now c.args.happening.now) (none_there c.args.self.now.halts.now (sym c.is_empty.ensures ∙ c.if-is_empty.true))))

pub returns : goal.returns
returns g c = λ tests events follows.
    c.any_halted.ensures tests events follows ∙ ap (λ (h : Happening). has_some (halts_behind c.args.self.now.halts.now tests events c.args.more h)) c.lined-told.ensures
