use Rattle.std.specs.Prelude.{[]}
use Rattle.spv_undo.proofs.undoing.no_path.Given as goal

abbrev pub ghost-of : goal.ghost-of
ghost-of a = []
