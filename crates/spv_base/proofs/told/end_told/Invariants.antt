use Rattle.std.specs.Prelude.{◌+◌}
use Rattle.spv_base.specs.Outside.{ends_told}
use Rattle.spv_base.proofs.told.end_told.Given as goal

abbrev pub ghost-by : goal.ghost-by
ghost-by a = a.self.now.value + ends_told a._first.now a._second.now.now
