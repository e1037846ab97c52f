use Rattle.std.proofs.Common.{unwrap_or}
use Rattle.spv_base.specs.Parts.{part_at}
use Rattle.spv_values.proofs.trees.part_by.Given as goal

abbrev pub ghost-by : goal.ghost-by
ghost-by a = unwrap_or (part_at a.self.now.value a._first.now.value) a.self.now.value
