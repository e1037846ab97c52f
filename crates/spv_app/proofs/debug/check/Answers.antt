use Rattle.std.proofs.Common.{refl, inr, Ok, Err}
use Rattle.std.proofs.KnownBytes.{Keeps-refl}
use Rattle.spv_app.specs.Checking.{Unread, Read, checking, check_line, check_status}
use Rattle.spv_loop.specs.FileStatus.{status_of_file}
use Rattle.spv_app.proofs.Checks.{says_unread, says_due}
use Rattle.spv_app.proofs.debug.check.Goals as goal

pub returns-in-Err-clause-checked : goal.returns-in-Err-clause-checked
returns-in-Err-clause-checked g c =
    rw c.from.ensures (Unread (status_of_file c.in-Err.error) (says_unread _ _ _ _ _ _ _ _ _ c.in-Err.error c.in-Err.ensures.read c.in-Err.ensures.asked c.in-Err.ensures.count) (Keeps-refl _))

pub returns-in-Ok-check_bytes-clause-checked : goal.returns-in-Ok-check_bytes-clause-checked
returns-in-Ok-check_bytes-clause-checked g c =
    let s = c.tell_report.ensures.says in
    Read _ c.in-Ok.binary.items s.0 c.in-Ok.ensures.asked (record { content = c.in-Ok.ensures.read.1; fits = c.in-Ok.ensures.read.0 }) s.1
    (says_due checking check_status check_line _ _ _ (Ok c.in-Ok-check_bytes.report) _ c.deref.ensures.value c.in-Ok-check_bytes.ensures s.2)

pub returns-in-Err-Refused-clause-checked : goal.returns-in-Err-Refused-clause-checked
returns-in-Err-Refused-clause-checked g c =
    let s = c.tell_refusal.ensures.says in
    Read _ c.in-Ok.binary.items s.0 c.in-Ok.ensures.asked (record { content = c.in-Ok.ensures.read.1; fits = c.in-Ok.ensures.read.0 }) s.1
    (says_due checking check_status check_line _ _ _ (Err c.in-Err-Refused.refusal) _ c.deref.ensures.value (rw c.in-Err-Refused.field-0-is at c.in-Err-Refused.ensures) s.2)

pub returns-clause-checked : goal.returns-clause-checked
returns-clause-checked g c = Unread _ (inr (inr (refl, inr c.in-Ok.ensures.asked))) (Keeps-refl _)
