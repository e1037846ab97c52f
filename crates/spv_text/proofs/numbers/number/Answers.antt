use Rattle.std.proofs.Common.{sym}
use Rattle.spv_text.proofs.DigitLemmas.{number_leads, number_is, number_is_not}
use Rattle.spv_text.proofs.numbers.number.Goals as goal

pub returns-then-not-leads_well : goal.returns-then-not-leads_well
returns-then-not-leads_well c n h e =
    let leads = c.leads_well.ensures.1 (number_leads c.args.digits.now n h e) in
    absurd (cc)

pub returns-in-Some : goal.returns-in-Some
returns-in-Some c = number_is c.args.digits.now c.in-Some.number (c.leads_well.ensures.0 c.if-not-leads_well.false) (sym c.in-Some.ensures.number)

pub returns-in-None : goal.returns-in-None
returns-in-None c = number_is_not c.args.digits.now (sym c.in-None.ensures.number)
