use Rattle.spv_plans.proofs.PlanLemmas.{registers_counted}
use Rattle.spv_plans.proofs.laws.registers_are_counted.Goals as goal

pub returns : goal.returns
returns c =
    let lengths = c.lengths_leave_types_sound.ensures in
    registers_counted c.accepted_types_are_sound.ensures lengths.sound lengths.numbers lengths.others lengths.here c.shapes_are_by_forms.ensures c.accepted_modules_are_valid.ensures
