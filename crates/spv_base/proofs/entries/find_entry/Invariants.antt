use Rattle.std.proofs.Common.{◌≡◌, drop}
use Rattle.spv_base.specs.Entries.{reads}
use Rattle.spv_base.proofs.entries.find_entry.Given as goal

abbrev pub invariant-loop-entry : goal.invariant-loop-entry
invariant-loop-entry g l = reads l.id l.entries ≡ reads l.id (drop l.entry-index l.entries)
