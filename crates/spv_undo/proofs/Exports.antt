-- What crates above cite of this crate's lemmas; every other file of proofs is the crate's own.
-- Each change of a state, and the entry that undoes it.
pub use Rattle.spv_undo.proofs.LawLemmas.{frame_back, has_top, pc_undone, value_back, status_undone, barrier_undone, frame_undone, frame_entry, left_rooms, popped_counts, event_undone}
-- Registers, frames and parts whose entries lead back.
pub use Rattle.spv_undo.proofs.EntryLemmas.{level_is, same_frames, value_undone, Exchanged, exchanged, no_register, register_is, row_back, value_counts, no_pointer_register, pointer_counts, pointer_register_is, pointer_undone}
-- A part of a variable that was stored, and the old one that is put back.
pub use Rattle.spv_undo.proofs.StoreLemmas.{put_back_leaf, PutBack, put_back_part, LeafBack, leaf_undone, may_at, there_at, undoes_at}
-- Variables and registers of one cell whose entries lead back.
pub use Rattle.spv_undo.proofs.CellLemmas.{HasOne, Stands, cell_register_is, move_undone, named_whole, register_at, some_there, stands_still, variable_undone, whole}
-- Changes that are undone one after the other.
pub use Rattle.spv_undo.proofs.UndoLemmas.{front_undoes, undo_both}
