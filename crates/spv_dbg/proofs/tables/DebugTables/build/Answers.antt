use Rattle.std.proofs.Common.{rules}
use Rattle.spv_dbg.specs.Tables.{tables_of}
use Rattle.spv_dbg.proofs.RecordUses.{whole_tables}
use Rattle.spv_dbg.proofs.tables.DebugTables.build.Goals as goal

pub invariant_of-result : goal.invariant_of-result
unfolding tables_of
invariant_of-result c = record {
  ids_are = search rules;
  words_are = search rules;
  names_are = search rules;
  records_are = whole_tables c.args.module.now _ c.records_are_whole_in_their_tables.ensures c.insts.ensures.accepted (search rules);
}
