use Rattle.std.proofs.Common.{◌≡◌, ℕ, List, map, refl, ap, ◌∙◌}
use Rattle.spv_base.specs.Entries.{reads}
use Rattle.spv_dbg.specs.declared.kinds.Role.{Role}
use Rattle.spv_dbg.specs.declared.kinds.TheConstants.{OPERATIONS}
use Rattle.spv_dbg.specs.Kinds.{operations}
use Rattle.spv_dbg.proofs.kinds.operands_of.Goals as goal

-- the program's table is the table of the definition
same_table : map (λ o. (o.0, o.1.now)) OPERATIONS ≡ operations
unfolding operations
same_table = refl

pub returns : goal.returns
returns c = c.code_in.ensures ∙ ap (λ (rows : List (ℕ × List Role)). reads c.args.opcode rows) same_table
