use Rattle.spv_results.specs.Operands.{known}
use Rattle.spv_computing.proofs.SelectLemmas.{select_operation, select_pointers}
use Rattle.spv_computing.proofs.kept.select_chooses.Goals as goal

pub is_kept-requires : goal.is_kept-requires
is_kept-requires c = select_operation c.args.site.now.inst c.requires.action

pub returns-clause-rule : goal.returns-clause-rule
returns-clause-rule c =
    let rule = c.is_kept.ensures.rule in
    select_pointers (known c.args.site.now.program.accepted) c.args.site.now.inst rule.0 c.requires.pointers rule.1
