use Rattle.spv_loop.proofs.command_loop.answer_last.Given as goal

abbrev pub ghost-answer : goal.ghost-answer
ghost-answer g a = g.settings
