use Rattle.test_runs.proofs.own.report_own.Given as goal

abbrev pub ghosts-debug_with_own : goal.ghosts-debug_with_own
ghosts-debug_with_own g a = record { name = a.blank.name; parts = a.blank.parts }
