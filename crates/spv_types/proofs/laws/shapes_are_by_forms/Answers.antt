use Rattle.spv_types.proofs.ShapeLemmas.{shapes_are_by_forms}
use Rattle.spv_types.proofs.laws.shapes_are_by_forms.Goals as goal

pub returns : goal.returns
returns c = shapes_are_by_forms
