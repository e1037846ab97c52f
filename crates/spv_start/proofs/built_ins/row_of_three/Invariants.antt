use Rattle.spv_start.proofs.built_ins.row_of_three.Given as goal

abbrev pub ghost-new : goal.ghost-new
ghost-new g a = g.value
