use Rattle.spv_base.proofs.told.no_ends.Given as goal

abbrev pub ghost-of : goal.ghost-of
ghost-of a = 0
