use Rattle.test_runs.proofs.limited.stands_of.Given as goal

abbrev pub ghosts-stands : goal.ghosts-stands
ghosts-stands a = record { name = a.blank.name; parts = a.blank.parts }
