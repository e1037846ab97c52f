use Rattle.spv_text.proofs.StringLemmas.{no_string}
use Rattle.spv_text.proofs.strings.string_at.Goals as goal

pub returns-in-None : goal.returns-in-None
returns-in-None c = no_string c.args.text.now c.in_ok-bytes.rest.now c.in_ok-bytes.ensures.all c.in-None.ensures c.in_ok-bytes.ensures.rest
