use Rattle.spv_dbg.proofs.WellformedLemmas.{formed_decides}
use Rattle.spv_dbg.proofs.laws.well_formed_records_are_those_of_the_table.Goals as goal

pub returns : goal.returns
returns c = λ m marks inside d. formed_decides m marks inside d
