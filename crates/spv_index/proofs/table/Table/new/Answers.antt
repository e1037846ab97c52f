use Rattle.std.proofs.Common.{arith}
use Rattle.std.proofs.lemmas.Grind.{common_steps}
use Rattle.spv_index.proofs.table.Table.new.Goals as goal

pub put_all-requires : goal.put_all-requires
put_all-requires g c = grind (arith, common_steps)
