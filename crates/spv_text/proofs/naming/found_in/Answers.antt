use Rattle.spv_text.proofs.NameLemmas.{among_at}
use Rattle.spv_text.proofs.naming.found_in.Goals as goal

pub returns-then-is_named : goal.returns-then-is_named
returns-then-is_named c = (among_at c.args.table.now c.loop-opcode.opcode-index _ c.loop-opcode-test.true, c.is_named.ensures.0 c.if-is_named.true)
