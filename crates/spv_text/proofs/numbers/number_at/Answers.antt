use Rattle.spv_text.proofs.DigitLemmas.{no_number}
use Rattle.spv_text.proofs.numbers.number_at.Goals as goal

pub returns-in-None : goal.returns-in-None
returns-in-None c = no_number c.args.text.now c.digits_at.result.0.now c.digits_at.result.1.now c.digits_at.ensures.digits c.digits_at.ensures.whole c.digits_at.ensures.rest c.in-None.ensures
