use Rattle.std.specs.Prelude.{◌∷◌, []}
use Rattle.spv_frame.proofs.slots.path_by.Given as goal

abbrev pub ghost-by : goal.ghost-by
ghost-by a = a._first.now ∷ []
