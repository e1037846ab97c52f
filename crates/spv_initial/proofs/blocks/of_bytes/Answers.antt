use Rattle.std.proofs.Common.{arith, subst, sym}
use Rattle.spv_initial.specs.Values.{Suits}
use Rattle.spv_initial.proofs.SuitLemmas.{read_suits}
use Rattle.spv_initial.proofs.blocks.of_bytes.Goals as goal

pub returns-clause-suits : goal.returns-clause-suits
returns-clause-suits c =
    subst (Suits c.args.types.now c.args.declared.now) (sym c.in_ok-variable.ensures)
    (read_suits c.args.types.now c.args.declared.now c.args.bytes.now c.args.size (λ k. omega (arith, c.type_inv.bytes k)))
