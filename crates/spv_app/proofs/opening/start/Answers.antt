use Rattle.std.proofs.Common.{◌≡◌, Ok, subst, sym}
use Rattle.spv_state.specs.Program.{Program, schedule_for}
use Rattle.spv_app.proofs.OpeningLemmas.{fitting, scheduled}
use Rattle.spv_app.proofs.opening.start.Goals as goal

pub of-requires : goal.of-requires
of-requires c = record { fits = fitting c.args.accepted c.args.setup c.in_ok-schedule.schedule c.in_ok-schedule.ensures.due }

pub open_limited-requires-clause-fits : goal.open_limited-requires-clause-fits
open_limited-requires-clause-fits c =
    subst (λ (p : Program). schedule_for p.accepted p.setup ≡ Ok c.in_ok-schedule.schedule) (sym c.in_ok-program.ensures) (scheduled c.args.accepted c.args.setup c.in_ok-schedule.schedule c.in_ok-schedule.ensures.due)
