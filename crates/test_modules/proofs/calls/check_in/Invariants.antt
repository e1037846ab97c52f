use Rattle.test_modules.proofs.calls.check_in.Given as goal

abbrev pub ghosts-call : goal.ghosts-call
ghosts-call g a = record { name = a.blank.name; parts = a.blank.parts }
