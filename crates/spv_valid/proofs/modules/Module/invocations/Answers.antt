use Rattle.std.proofs.Common.{arith, subst, sym}
use Rattle.spv_valid.proofs.SizeLemmas.{IsFit, size_fits, size_holds}
use Rattle.spv_valid.proofs.modules.Module.invocations.Goals as goal

pub overflow_mul-result : goal.overflow_mul-result
overflow_mul-result c =
    let fit : IsFit c.size-x.result = subst IsFit (sym c.size-x.ensures) (size_fits c.args.self.now.size (size_holds c.args.self.now c.insts-insts.ensures.valid)) in
    omega (arith, fit.two)

pub overflow_mul-result-2 : goal.overflow_mul-result-2
overflow_mul-result-2 c =
    let fit : IsFit c.size-x.result = subst IsFit (sym c.size-x.ensures) (size_fits c.args.self.now.size (size_holds c.args.self.now c.insts-insts.ensures.valid)) in
    omega (arith, fit.all)

pub returns-clause-some : goal.returns-clause-some
returns-clause-some c =
    let fit : IsFit c.size-x.result = subst IsFit (sym c.size-x.ensures) (size_fits c.args.self.now.size (size_holds c.args.self.now c.insts-insts.ensures.valid)) in
    fit.some

pub returns-clause-limit : goal.returns-clause-limit
returns-clause-limit c =
    let fit : IsFit c.size-x.result = subst IsFit (sym c.size-x.ensures) (size_fits c.args.self.now.size (size_holds c.args.self.now c.insts-insts.ensures.valid)) in
    fit.all
