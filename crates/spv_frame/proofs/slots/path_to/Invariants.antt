use Rattle.std.specs.Prelude.{[]}
use Rattle.spv_frame.proofs.slots.path_to.Given as goal

-- any path, before the one that is meant is put in its place
abbrev pub ghost-of : goal.ghost-of
ghost-of a = []
