use Rattle.std.proofs.Common.{◌∙◌}
use Rattle.spv_types.proofs.RowChanges.{put_back, put_has_row, put_is_there, put_twice}
use Rattle.spv_types.proofs.rows.exchanging_twice_is_nothing.Goals as goal

pub returns-clause-there : goal.returns-clause-there
returns-clause-there c = λ path v u n k h. put_has_row path v h.part u n h.is h.lies

pub returns-clause-nothing : goal.returns-clause-nothing
returns-clause-nothing c = λ path v w u h. (put_is_there path v w u h, put_twice path v w u w h ∙ put_back path v w h)
