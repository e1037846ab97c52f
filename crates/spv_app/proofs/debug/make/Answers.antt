use Rattle.std.proofs.Common.{[], refl, inr, subst, sym}
use Rattle.std.proofs.KnownBytes.{Appends-nil}
use Rattle.spv_app.specs.Debug.{SaysLine}
use Rattle.spv_app.specs.Making.{make_line, make_status}
use Rattle.spv_app.proofs.debug.make.Goals as goal

pub returns-in-Ok-clause-made : goal.returns-in-Ok-clause-made
returns-in-Ok-clause-made g c =
    let s = c.tell_made.ensures.says in
    (s.0, s.1, subst (λ due. SaysLine (make_status due) (make_line due) c.tell_made.result s.0) (sym c.in-Ok.ensures.due) s.2, c.making.ensures.counted)

pub returns-in-Err-Refused-clause-made : goal.returns-in-Err-Refused-clause-made
returns-in-Err-Refused-clause-made g c =
    let s = c.tell_refusal.ensures.says in
    (s.0, s.1, subst (λ due. SaysLine (make_status due) (make_line due) c.tell_refusal.result s.0) (sym (rw c.in-Err-Refused.field-0-is at c.in-Err-Refused.ensures.due)) s.2, c.making.ensures.counted)

pub returns-in-Err-NoMemory-clause-made : goal.returns-in-Err-NoMemory-clause-made
returns-in-Err-NoMemory-clause-made g c = ([], Appends-nil _, inr (inr (refl, refl)), c.making.ensures.counted)
