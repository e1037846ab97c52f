use Rattle.std.specs.Prelude.{[], ◌∷◌, ◌++◌}
use Rattle.spv_base.proofs.told.offered.Given as goal

abbrev pub ghost-by : goal.ghost-by
ghost-by a = a.self.now.value ++ a._first.now.now ∷ []
