use Rattle.spv_loop.proofs.answer.answer_byte.Given as goal

abbrev pub ghost-answer : goal.ghost-answer
ghost-answer g a = g.settings
