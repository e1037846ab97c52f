use Rattle.spv_mem.specs.Blanks.{blank_of}
use Rattle.spv_mem.proofs.blanks.Blank.tree_by.Given as goal

abbrev pub ghost-by : goal.ghost-by
ghost-by a = blank_of a._first.now.types.now a._first.now.elements a._second.now
