use Rattle.std.specs.Prelude.{[]}
use Rattle.spv_journal.proofs.changes.exchange_leaf.Given as goal

-- the path to the whole of the row
abbrev pub ghost-of : goal.ghost-of
ghost-of a = []
