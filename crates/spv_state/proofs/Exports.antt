-- What crates above cite of this crate's lemmas; every other file of proofs is the crate's own.
-- The instructions of a module with where they stand, found by their words.
pub use Rattle.spv_state.proofs.Stands.{IsOne, stand_inst, class_is, Stood, stood, member_one}
-- Behind an executable the next one of its block stands in the same function: a label is one of one function alone.
pub use Rattle.spv_state.proofs.Blocks.{Begun, Entered, rooted, Listed, listed}
-- What an accepted module gives to a step: its instructions by their words and results, and where executables go on.
pub use Rattle.spv_state.proofs.AcceptedLemmas.{goes_on, IsKnown, known, known_as}
-- Changes of one element of a list.
pub use Rattle.spv_state.proofs.Lists.{change_other, change_none, set_is_change, change_same, changed_from}
-- Entries that are written: their keys stay, and an id without an entry is not written.
pub use Rattle.spv_state.proofs.Entries.{keys_stay, writes_nothing}
-- The executable at which a frame stands, and the one behind it.
pub use Rattle.spv_state.proofs.ExecutableLemmas.{Standing, standing, stands_there, at_standing, next_stands, function_known}
-- The entry function of an accepted module: it is one of its functions, some chain of calls begins with it, and it has a first executable.
pub use Rattle.spv_state.proofs.EntryLemmas.{function_listed}
-- The schedule of a setup that fits a module is for the module's invocations.
pub use Rattle.spv_state.proofs.FitLemmas.{schedule_counts}
-- The variables of a function, among those of the module.
pub use Rattle.spv_state.proofs.VariableLemmas.{kept_targets}
-- Roots of pointers: where the variable that one names is there.
pub use Rattle.spv_state.proofs.RootLemmas.{root_prop, root_stays, root_more, frame_rooted, rooted_stays, rooted_more, rooted_moved, ids_changed, ids_below, ids_taken}
-- The top frame of an invocation in a sound state.
pub use Rattle.spv_state.proofs.TopLemmas.{top_sound}
-- A pointer that an operand stands for names a variable that is there.
pub use Rattle.spv_state.proofs.OperandRoots.{pointer_own, frame_there, operand_root}
-- Roots of variables by their storage classes.
pub use Rattle.spv_state.proofs.RootClasses.{root_anywhere, buffer_root}
-- The pointers that debug events capture name variables that are there.
pub use Rattle.spv_state.proofs.EventRoots.{passed_rooted, above_rooted}
-- The state at the start of a run is sound.
pub use Rattle.spv_state.proofs.StartSound.{fresh_rooted, function_frame, passed_sound}
-- The state at the start of a run, put together.
pub use Rattle.spv_state.proofs.BegunLemmas.{function_are}
-- The primitive changes of a state.
pub use Rattle.spv_state.proofs.ChangeLemmas.{without_is, without_entered, some_frames, stacks_stay}
-- The register of an id in the top frame, if the frame has it, and where it lies.
pub use Rattle.spv_state.proofs.SlotLemmas.{no_value}
-- The debug events that a run passes.
pub use Rattle.spv_state.proofs.EventLemmas.{top_at, passed_is, readable}
-- What is put back in a state.
pub use Rattle.spv_state.proofs.UndoingLemmas.{level_there}
