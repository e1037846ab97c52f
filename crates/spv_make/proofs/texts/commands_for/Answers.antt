use Rattle.std.proofs.lemmas.List.{append_assoc}
use Rattle.spv_make.specs.Inputs.{commands_for}
use Rattle.spv_make.proofs.texts.commands_for.Goals as goal

pub returns : goal.returns
unfolding commands_for
returns c =
    let repeated = c.in_ok-stops.ensures.bytes in
    let printed = c.in_ok-text.ensures.ok in
    let vec = c.into_bytes.ensures.value in
    let given = rw (repeated, c.rounds_for.ensures) at printed in
    simp append_assoc (rw (c.from_vec.ensures, vec) given)
