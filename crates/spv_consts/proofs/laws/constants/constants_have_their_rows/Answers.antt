use Rattle.spv_consts.proofs.ConstantWalk.{constants_are}
use Rattle.spv_consts.proofs.laws.constants.constants_have_their_rows.Goals as goal

pub returns : goal.returns
returns c =
    let lengths = c.lengths_leave_types_sound.ensures in
    constants_are (λ insts ts _ h. c.accepted_types_are_sound.ensures insts ts h) lengths.sound lengths.numbers lengths.others lengths.here c.shapes_are_by_forms.ensures
