use Rattle.spv_dbg.proofs.RecordLaws.{records_are}
use Rattle.spv_dbg.proofs.laws.records_are_whole_in_their_tables.Goals as goal

pub returns : goal.returns
returns c m is = records_are m is (c.accepted_modules_are_valid.ensures m is)
