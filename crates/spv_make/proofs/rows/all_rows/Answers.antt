use Rattle.std.proofs.Common.{refl}
use Rattle.spv_make.specs.Instructions.{instructions}
use Rattle.spv_make.proofs.rows.all_rows.Goals as goal

-- the program's table is that of the definition
pub returns : goal.returns
unfolding instructions
returns c = λ turns. refl
