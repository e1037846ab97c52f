-- Entries that are added.
use Rattle.std.specs.Prelude.{◌≡◌, Some, option_map}
use Rattle.spv_undo.specs.OldValues.{popped}
use Rattle.spv_undo.specs.declared.entries.Entry.{Entry}
use Rattle.spv_undo.specs.declared.entries.OldFrame.{OldFrame}
use Rattle.spv_journal.specs.Events.{Kept, pushed}

-- an entry was added of which something is so
pub record Keeps (P : Entry → Type 0) (old new : Kept) : Type 0 where
  pub entry : Entry
  pub holds : P entry
  pub added : new ≡ record old { gathered = option_map (pushed entry) old.gathered }

-- the entry of a frame that was left was added
pub record KeepsFrame (left : OldFrame) (old new : Kept) : Type 0 where
  pub entry : Entry
  pub frame : popped entry ≡ Some left
  pub added : new ≡ record old { gathered = option_map (pushed entry) old.gathered }
