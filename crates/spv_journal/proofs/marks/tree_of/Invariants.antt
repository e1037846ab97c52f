use Rattle.spv_journal.proofs.marks.tree_of.Given as goal

abbrev pub ghost-by : goal.ghost-by
ghost-by a = a._first.now
