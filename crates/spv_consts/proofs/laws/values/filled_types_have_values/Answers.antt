use Rattle.spv_consts.proofs.TreeLemmas.{row_is}
use Rattle.spv_consts.proofs.laws.values.filled_types_have_values.Goals as goal

pub returns : goal.returns
returns c = λ ts roots n id cells sound complete among is_made fills. row_is ts roots n sound (c.shapes_are_by_forms.ensures ts roots sound) complete id among is_made cells fills
