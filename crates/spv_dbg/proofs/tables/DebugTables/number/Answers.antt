use Rattle.std.proofs.Common.{ap}
use Rattle.spv_dbg.specs.Tables.{Tables}
use Rattle.spv_dbg.proofs.NumberLemmas.{number_led, number_within}
use Rattle.spv_dbg.proofs.tables.DebugTables.number.Goals as goal

pub returns : goal.returns
returns c =
    let number = number_led c.args.id _ _ _ _ (ap (λ (t : Tables). t.insts) c.self.view_is) c.self.invariant.ids_are c.get.ensures in
    record { number = number; within = number_within _ _ _ number }
