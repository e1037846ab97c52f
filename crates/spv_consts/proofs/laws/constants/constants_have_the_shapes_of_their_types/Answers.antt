use Rattle.spv_consts.proofs.WalkConstants.{constants_have_values, types_are_whole, values_have_shapes}
use Rattle.spv_consts.proofs.laws.constants.constants_have_the_shapes_of_their_types.Goals as goal

pub returns-clause-types : goal.returns-clause-types
returns-clause-types c =
    let lengths = c.lengths_leave_types_sound.ensures in
    types_are_whole (λ insts ts _ h. c.accepted_types_are_sound.ensures insts ts h) lengths.sound lengths.numbers lengths.others lengths.here c.shapes_are_by_forms.ensures

pub returns-clause-shapes : goal.returns-clause-shapes
returns-clause-shapes c =
    let lengths = c.lengths_leave_types_sound.ensures in
    values_have_shapes (λ insts ts _ h. c.accepted_types_are_sound.ensures insts ts h) lengths.sound lengths.numbers lengths.others lengths.here c.shapes_are_by_forms.ensures

pub returns-clause-values : goal.returns-clause-values
returns-clause-values c =
    let lengths = c.lengths_leave_types_sound.ensures in
    constants_have_values (λ insts ts _ h. c.accepted_types_are_sound.ensures insts ts h) lengths.sound lengths.numbers lengths.others lengths.here c.shapes_are_by_forms.ensures
