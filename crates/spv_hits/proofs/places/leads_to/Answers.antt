use Rattle.std.proofs.Common.{◌∙◌, ap, sym, Some}
use Rattle.std.specs.Option.{option_map}
use Rattle.spv_types.specs.Rows.{leaves}
use Rattle.spv_hits.proofs.places.leads_to.Goals as goal

pub returns-in-Ok : goal.returns-in-Ok
returns-in-Ok c = λ same. ap (option_map leaves) c.in-Ok.ensures ∙ ap Some (sym c.cells.ensures ∙ c.same_leaves.ensures same)
