use Rattle.std.proofs.Common.{List, ap, ◌∙◌}
use Rattle.spv_ops.specs.Opcodes.{Row}
use Rattle.spv_ops.specs.Grammar.{row_with, row_of}
use Rattle.spv_ops.proofs.opcodes.opcode_of.Goals as goal

pub returns : goal.returns
unfolding row_of
returns c = c.found_in.ensures ∙ ap (λ (rows : List Row). row_with c.args.number rows) c.all_opcodes.ensures
