use Rattle.test_runs.proofs.followed.replies_of.Given as goal

abbrev pub ghosts-replies : goal.ghosts-replies
ghosts-replies a = record { name = a.blank.name; parts = a.blank.parts }
