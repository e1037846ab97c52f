use Rattle.std.proofs.Common.{◌≡◌, take}
use Rattle.spv_types.proofs.table.TypeTable.copy.Given as goal

-- the types so far are those of the table
abbrev pub invariant-loop-entry : goal.invariant-loop-entry
invariant-loop-entry l = l.table ≡ take l.entry-index l.entry-items
