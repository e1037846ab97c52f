-- What crates above cite of this crate's lemmas; every other file of proofs is the crate's own.
-- Which types the variables of an accepted module may have: those of data, but for runtime arrays by themselves.
pub use Rattle.spv_operands.proofs.TargetLemmas.{sized_counted}
-- What holds of each element of a list holds of one that it contains.
pub use Rattle.spv_operands.proofs.ListLemmas.{each_contained}
-- Each OpVariable of an accepted module is among its variables.
pub use Rattle.spv_operands.proofs.VariableLemmas.{Stands, place_of, IsTyped, variable_typed, variable_by}
-- What the meaning of an id tells of the instruction that defines it.
pub use Rattle.spv_operands.proofs.MeaningLemmas.{stand_defines}
-- Shapes of data and of pointers, and of the values that operands stand for.
pub use Rattle.spv_operands.proofs.ShapeLemmas.{data_plain, blank_plain}
-- What an operand stands for has the shape of its id's type.
pub use Rattle.spv_operands.proofs.OperandLemmas.{register_read, Defines, defines, IsShaped, operand_shaped}
-- Frames whose registers hold values of their types stay so.
pub use Rattle.spv_operands.proofs.FrameLemmas.{fresh_shaped}
-- Operands as code finds them.
pub use Rattle.spv_operands.proofs.ReadingLemmas.{constant_leaves, constant_plain, value_meant, constant_value, found_below, StandsIn, found_plan, plan_apart}
-- Where the variables of an accepted module live: those before the functions by the rules of their storage classes, and those of functions
-- in the class Function.
pub use Rattle.spv_operands.proofs.ClassLemmas.{IsModuleVariable, variable_at, front_variable, IsLocalVariable, behind_variable, IsVariableAt, module_meant, local_meant, HasClass, class_known}
-- Where pointers of a type may lead: to variables of the type's storage class.
pub use Rattle.spv_operands.proofs.ClassTargets.{IsTarget, target_parts, target_from, target_same}
