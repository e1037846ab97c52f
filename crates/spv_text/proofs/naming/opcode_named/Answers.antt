use Rattle.spv_text.proofs.NameLemmas.{found}
use Rattle.spv_text.proofs.naming.opcode_named.Goals as goal

pub returns : goal.returns
returns c = found c.args.name.now c.in_ok-short.short.now _ c.found_in.result c.all_opcodes.ensures c.in_ok-short.ensures c.found_in.ensures
