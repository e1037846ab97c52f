use Rattle.spv_base.proofs.ghosts.Ghost.by.Given as goal

abbrev pub ghost-of : goal.ghost-of
ghost-of g a = g.picked
