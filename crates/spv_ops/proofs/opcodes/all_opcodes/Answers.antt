use Rattle.std.proofs.Common.{refl}
use Rattle.spv_ops.specs.Opcodes.{table}
use Rattle.spv_ops.proofs.opcodes.all_opcodes.Goals as goal

-- the program's table is the table of the definition
pub returns : goal.returns
unfolding table
returns c = refl
