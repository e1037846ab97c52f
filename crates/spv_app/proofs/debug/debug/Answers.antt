use Rattle.std.proofs.Common.{refl, inr}
use Rattle.std.proofs.KnownBytes.{Keeps-refl}
use Rattle.spv_app.specs.Debug.{Unopened, Refused, Opened}
use Rattle.spv_loop.specs.FileStatus.{status_of_file}
use Rattle.spv_app.specs.Opening.{opening, with_journal}
use Rattle.spv_loop.specs.Sessions.{first_viewing, reply, line_cost}
use Rattle.spv_app.proofs.Openings.{viewed_is, refused_is, ran_as, ran_by}
use Rattle.spv_app.proofs.debug.debug.Goals as goal

pub returns-in-Err-clause-debugged : goal.returns-in-Err-clause-debugged
returns-in-Err-clause-debugged g c = rw c.from.ensures (Unopened (status_of_file c.in-Err.error) c.in-Err.ensures.says refl (Keeps-refl _) refl)

pub returns-in-Ok-open_session-clause-debugged : goal.returns-in-Ok-open_session-clause-debugged
returns-in-Ok-open_session-clause-debugged g c =
    let opened = viewed_is 1048576 (opening c.in-Ok.pair.0.items c.in-Ok.pair.1.items) c.in-Ok-open_session.debugging.session.core c.in-Ok-open_session.ensures.due in
    Opened _ c.in-Ok.pair.0.items c.in-Ok.pair.1.items opened.0 (c.in-Ok.ensures.asked refl) c.in-Ok.ensures.pair opened.1
    (ran_by _ _ (first_viewing (with_journal 1048576 opened.0)) _ _ _ c.in-Ok-open_session.ensures.tests
    (ran_as (reply _) (line_cost _) (first_viewing (with_journal 1048576 opened.0)) _ _ _ _ opened.2 c.run.ensures.ran))

pub returns-in-Err-Refused-clause-debugged : goal.returns-in-Err-Refused-clause-debugged
returns-in-Err-Refused-clause-debugged g c =
    let s = c.tell_refusal.ensures.says in
    Refused _ c.in-Ok.pair.0.items c.in-Ok.pair.1.items c.in-Err-Refused.refusal s.0 (c.in-Ok.ensures.asked refl) c.in-Ok.ensures.pair (refused_is 1048576 (opening c.in-Ok.pair.0.items c.in-Ok.pair.1.items) c.in-Err-Refused.refusal (rw c.in-Err-Refused.field-0-is at c.in-Err-Refused.ensures.due)) refl s.1 s.2 refl

pub returns-in-Err-NoMemory-clause-debugged : goal.returns-in-Err-NoMemory-clause-debugged
returns-in-Err-NoMemory-clause-debugged g c = Unopened _ (inr (inr (refl, inr (inr (c.in-Ok.ensures.asked refl))))) refl (Keeps-refl _) refl
