use Rattle.spv_text.proofs.PartLemmas.{no_string_part}
use Rattle.spv_text.proofs.parts.part_at.Goals as goal

pub returns-in-None : goal.returns-in-None
returns-in-None c = no_string_part c.args.text.now c.in-Some.bytes.now c.in-Some.ensures (rw c.in-None.is at c.in_ok-bytes.ensures)
