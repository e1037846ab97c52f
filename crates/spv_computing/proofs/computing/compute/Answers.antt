use Rattle.spv_state.specs.declared.actions.Action.TheVariants.{Compute}
use Rattle.spv_sites.proofs.Exports.{due_by}
use Rattle.spv_computing.proofs.SelectLemmas.{computes_else}
use Rattle.spv_computing.proofs.computing.compute.Goals as goal

pub computed-requires-clause-lanes : goal.computed-requires-clause-lanes
computed-requires-clause-lanes c same = absurd (computes_else c.args.site.now.inst c.computation_at-computation.result c.requires c.computation_at-computation.ensures same)

pub computed-requires-clause-due : goal.computed-requires-clause-due
computed-requires-clause-due c = due_by c.args.site.now Compute c.requires
