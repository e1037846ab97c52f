use Rattle.std.proofs.Common.{subst}
use Rattle.spv_dbg.specs.Records.{AreRecords}
use Rattle.spv_dbg.specs.Tables.{Tables}
use Rattle.spv_dbg.proofs.tables.DebugTables.records_are_whole.Goals as goal

pub returns : goal.returns
returns c = subst (λ (t : Tables). ∥ AreRecords t ∥₁) c.self.view_is c.self.invariant.records_are
