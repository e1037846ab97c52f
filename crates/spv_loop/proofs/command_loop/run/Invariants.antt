use Rattle.spv_loop.proofs.command_loop.run.Given as goal

abbrev pub ghost-answer_input : goal.ghost-answer_input
ghost-answer_input g a = g.S.Debugger.tests a.session.now
