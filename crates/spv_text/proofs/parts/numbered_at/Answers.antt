use Rattle.spv_text.proofs.PartLemmas.{no_numbered, no_part}
use Rattle.spv_text.proofs.parts.numbered_at.Goals as goal

pub returns-in-None : goal.returns-in-None
returns-in-None c = no_part c.args.text.now c.requires (no_numbered c.mark_at-mark.result.0 c.args.text.now c.mark_at-mark.result.1.now c.mark_at-mark.ensures.only c.in-None.ensures)
