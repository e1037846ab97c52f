use Rattle.std.proofs.Common.{subst, sym}
use Rattle.spv_valid.proofs.Exports.{IsFit, size_fits, size_holds}
use Rattle.spv_initial.proofs.values.Opening.invocation.Goals as goal

pub returns-clause-x : goal.returns-clause-x
returns-clause-x c =
    let fit : IsFit c.size.result = subst IsFit (sym c.size.ensures) (size_fits c.args.self.now.accepted.now.size (size_holds c.args.self.now.accepted.now c.insts-insts.ensures.valid)) in
    fit.x

pub returns-clause-y : goal.returns-clause-y
returns-clause-y c =
    let fit : IsFit c.size.result = subst IsFit (sym c.size.ensures) (size_fits c.args.self.now.accepted.now.size (size_holds c.args.self.now.accepted.now c.insts-insts.ensures.valid)) in
    fit.y
