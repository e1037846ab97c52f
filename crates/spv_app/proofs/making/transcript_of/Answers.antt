use Rattle.std.proofs.Common.{◌≡◌, Some, ap, drop, refl}
use Rattle.spv_app.proofs.Makings.{ran_whole}
use Rattle.spv_app.proofs.Openings.{none_tested, ran_by}
use Rattle.spv_app.proofs.making.transcript_of.Goals as goal

pub returns-in-Done-clause-due : goal.returns-in-Done-clause-due
returns-in-Done-clause-due g c =
    let left : Some (drop c.new-input.result.at c.new-input.result.bytes.items) ≡ Some c.args.commands.items = rw (c.new-input.ensures.at, c.new-input.ensures.bytes) refl in
    ran_whole _ _ _ _ _ _ _ c.in_ok-debugging.ensures.due left (ap Some c.new-out.ensures.bytes) refl
    (ran_by _ _ _ _ _ _ (none_tested _ _ _ c.in_ok-debugging.ensures.tests c.new.ensures.items) c.in-Done.ensures.ran)
