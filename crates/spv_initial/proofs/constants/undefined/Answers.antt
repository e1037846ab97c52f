use Rattle.std.proofs.Common.{subst, sym}
use Rattle.spv_initial.specs.Values.{Suits}
use Rattle.spv_initial.proofs.SuitLemmas.{undefined_suits}
use Rattle.spv_initial.proofs.constants.undefined.Goals as goal

pub returns-clause-suits : goal.returns-clause-suits
returns-clause-suits c = subst (Suits c.args.types.now c.args.declared.now) (sym c.in_ok-variable.ensures) (undefined_suits c.args.types.now c.args.declared.now)
