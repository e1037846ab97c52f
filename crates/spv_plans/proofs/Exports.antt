-- What crates above cite of this crate's lemmas; every other file of proofs is the crate's own.
-- The instructions of a function are those behind its OpFunction, as long as they stand in it.
pub use Rattle.spv_plans.proofs.MemberLemmas.{block_inside, variables_inside, inside_from}
-- No id of a register stands twice, since no id of a module is the result of two instructions.
pub use Rattle.spv_plans.proofs.ApartLemmas.{insts_of_stands}
-- A type without a runtime array has a number of cells, where each array has its length.
pub use Rattle.spv_plans.proofs.CountLemmas.{scalar_plain, sized_plain, Plain, members_plain, cells_known}
-- The type of an instruction in a function is one of the module's types.
pub use Rattle.spv_plans.proofs.TypeLemmas.{second_false, each_behind}
-- What an accepted module gives to the plan of a function.
pub use Rattle.spv_plans.proofs.PlanLemmas.{each_drop, result_typed, function_named, function_class, each_inst, result_here, facts}
-- Elements of lists by their numbers, and ids by theirs.
pub use Rattle.spv_plans.proofs.NumberLemmas.{map_at, map_from, contains_at, at_contains, filtered, filtered_there, leading_at, number_gets, number_there}
-- The instructions that the registers of plans come from: one for each id, in one function.
pub use Rattle.spv_plans.proofs.ComesLemmas.{Chosen, chosen, Comes, value_comes, Placed, place}
-- The plan that is read off a module: no id stands twice in it, it is the plan of its function, and no other one is.
pub use Rattle.spv_plans.proofs.PlanOfLemmas.{function_is}
