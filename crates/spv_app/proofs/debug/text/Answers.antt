use Rattle.std.proofs.Common.{refl, subst, inr, Ok, Err}
use Rattle.std.proofs.KnownBytes.{Keeps-refl}
use Rattle.spv_app.specs.Checking.{Unread, Read}
use Rattle.spv_app.specs.Texting.{texting, text_line, text_status}
use Rattle.spv_app.specs.Debug.{SaysLine}
use Rattle.spv_loop.specs.declared.status.Status.TheVariants.{Done}
use Rattle.spv_loop.specs.FileStatus.{status_of_file}
use Rattle.spv_app.proofs.Checks.{says_unread, says_due}
use Rattle.spv_app.proofs.debug.text.Goals as goal

pub returns-in-Err-clause-texted : goal.returns-in-Err-clause-texted
returns-in-Err-clause-texted g c =
    rw c.from.ensures (Unread (status_of_file c.in-Err.error) (says_unread _ _ _ _ _ _ _ _ _ c.in-Err.error c.in-Err.ensures.read c.in-Err.ensures.asked c.in-Err.ensures.count) (Keeps-refl _))

pub returns-in-Ok-text_of_bytes-clause-texted : goal.returns-in-Ok-text_of_bytes-clause-texted
returns-in-Ok-text_of_bytes-clause-texted g c =
    let s = c.tell.ensures.says in
    Read _ c.in-Ok.binary.items s.0 c.in-Ok.ensures.asked (record { content = c.in-Ok.ensures.read.1; fits = c.in-Ok.ensures.read.0 }) s.1
    (says_due texting text_status text_line _ _ _ (Ok c.in-Ok-text_of_bytes.text) _ c.deref.ensures.value c.in-Ok-text_of_bytes.ensures
    (subst (λ line. SaysLine Done line c.tell.result s.0) c.as_slice.ensures s.2))

pub returns-in-Err-Refused-clause-texted : goal.returns-in-Err-Refused-clause-texted
returns-in-Err-Refused-clause-texted g c =
    let s = c.tell_refusal.ensures.says in
    Read _ c.in-Ok.binary.items s.0 c.in-Ok.ensures.asked (record { content = c.in-Ok.ensures.read.1; fits = c.in-Ok.ensures.read.0 }) s.1
    (says_due texting text_status text_line _ _ _ (Err c.in-Err-Refused.refusal) _ c.deref.ensures.value (rw c.in-Err-Refused.field-0-is at c.in-Err-Refused.ensures) s.2)

pub returns-clause-texted : goal.returns-clause-texted
returns-clause-texted g c = Unread _ (inr (inr (refl, inr c.in-Ok.ensures.asked))) (Keeps-refl _)
