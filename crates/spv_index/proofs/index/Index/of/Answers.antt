use Rattle.spv_index.proofs.IndexLemmas.{fewer}
use Rattle.spv_index.proofs.index.Index.of.Goals as goal

pub numbers_by_result-requires : goal.numbers_by_result-requires
numbers_by_result-requires c = rw c.insts-insts.ensures.insts (fewer _ c.insts-insts.ensures.decoded)

pub numbers_by_word-requires-clause-few : goal.numbers_by_word-requires-clause-few
numbers_by_word-requires-clause-few c = rw c.insts-insts.ensures.insts (fewer _ c.insts-insts.ensures.decoded)

pub numbers_by_name-requires : goal.numbers_by_name-requires
numbers_by_name-requires c = rw c.insts-insts.ensures.insts (fewer _ c.insts-insts.ensures.decoded)

pub decorations_of-requires : goal.decorations_of-requires
decorations_of-requires c = rw c.insts-insts.ensures.insts (fewer _ c.insts-insts.ensures.decoded)

pub member_decorations_of-requires : goal.member_decorations_of-requires
member_decorations_of-requires c = rw c.insts-insts.ensures.insts (fewer _ c.insts-insts.ensures.decoded)

pub invariant_of-result : goal.invariant_of-result
invariant_of-result c = record {
  definitions_are = rw (← c.insts-insts.ensures.insts) c.in_ok-definitions.ensures;
  words_are = rw (← c.insts-insts.ensures.insts) c.in_ok-words.ensures;
  names_are = rw (← c.insts-insts.ensures.insts) c.in_ok-names.ensures;
  decorations_are = rw (← c.insts-insts.ensures.insts) c.in_ok-decorations.ensures;
  member_decorations_are = rw (← c.insts-insts.ensures.insts) c.in_ok-member_decorations.ensures;
  start_is = rw (← c.insts-insts.ensures.insts) c.functions_start-functions_start.ensures.before;
  within = rw (← c.insts-insts.ensures.insts) c.functions_start-functions_start.ensures.within;
  sets_are = rw (← c.insts-insts.ensures.insts) c.in_ok-sets.ensures;
  standings_are = rw (← c.insts-insts.ensures.insts, ← c.in_ok-sets.ensures) c.in_ok-standings.ensures;
}
