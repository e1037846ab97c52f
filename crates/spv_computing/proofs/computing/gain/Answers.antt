use Rattle.std.proofs.Common.{subst}
use Rattle.spv_results.specs.Operands.{known}
use Rattle.spv_sites.specs.Kept.{Keeps}
use Rattle.spv_computing.proofs.SelectLemmas.{select_values}
use Rattle.spv_computing.proofs.computing.gain.Goals as goal

pub select-requires-clause-operation : goal.select-requires-clause-operation
select-requires-clause-operation c = (subst (Keeps c.args.site.now.program.accepted c.args.site.now.inst) c.in-Select.is c.requires.rule).0

pub select-requires-clause-rule : goal.select-requires-clause-rule
select-requires-clause-rule c =
    let rule = subst (Keeps c.args.site.now.program.accepted c.args.site.now.inst) c.in-Select.is c.requires.rule in
    select_values (known c.args.site.now.program.accepted) c.args.site.now.inst (c.requires.lanes c.in-Select.is) rule.1
