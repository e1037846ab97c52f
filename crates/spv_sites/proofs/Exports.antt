-- What crates above cite of this crate's lemmas; every other file of proofs is the crate's own.
-- Where the instructions of a module stand, and of which class they are.
pub use Rattle.spv_sites.proofs.StandLemmas.{HasClass, each_has_class, InBlock, each_in_block}
-- What acceptance gives of an instruction at which a run stops: it keeps the rule of its opcode, and an executable stands behind it unless
-- it ends its block.
pub use Rattle.spv_sites.proofs.RunLemmas.{IsKept, each_kept, alone, Runs, kept_each, runs_there, RulesAreTested}
-- What holds of each key of a table holds of a key that is found.
pub use Rattle.spv_sites.proofs.ComputationLemmas.{key_passes, IsComputed, computed}
-- What operands stand for, by their types.
pub use Rattle.spv_sites.proofs.OperandLemmas.{recovered, of_function, ValuesHaveShapes, PointersHaveShapes, id_shape, operand_shape, data_type}
-- What ids stand for by their types, and what constants do.
pub use Rattle.spv_sites.proofs.ValueLemmas.{id_typed, ConstantsAreMeant}
-- Pointers and other values, by the types of their operands.
pub use Rattle.spv_sites.proofs.PointerLemmas.{pointer_is, whole_part, pointer_form, Leads, pointed, reference_shape, lent_shape, pointer_shape, shaped_level, logical_rule}
-- What acceptance gives of an instruction that a run has come to, and of its frame.
pub use Rattle.spv_sites.proofs.SiteLemmas.{frame_sound, site_runs, body, plain_next, computed_keeps, computed_sized, computed_next, load_keeps, load_next, store_keeps, store_next}
-- Opcodes that are executables wherever they stand, by the rule that they keep.
pub use Rattle.spv_sites.proofs.ComputationRules.{is_plain_code, one_plain, no_debug, kept_by}
-- What an instruction is by its action, and what its register takes.
pub use Rattle.spv_sites.proofs.EffectLemmas.{IsActing, acts, acting, loading, storing, due_by, result_is, IsComputationDue, compute_due, computed_due, computed_fault, result_plain, result_fits, gain_fits, gain_taken}
-- The pointers that an instruction gives, or passes on to a function, name variables that are there.
pub use Rattle.spv_sites.proofs.RootedLemmas.{IsOwnRoot, id_root, site_root, given_root, plain_rooted, result_rooted, pointer_rooted, gain_rooted, register_rooted}
-- A frame stays sound where a register takes a value of its type, and where it goes on to the next executable.
pub use Rattle.spv_sites.proofs.SoundFrames.{RegisterFits, register_kept, register_stays, moved_kept}
-- Where the operands of predecoded instructions lie.
pub use Rattle.spv_sites.proofs.SourceLemmas.{slot_lies}
-- Steps that may fault, and what is due where one does.
pub use Rattle.spv_sites.proofs.StepLemmas.{operand, ok_then, err_then, no_value_due, outside_due}
