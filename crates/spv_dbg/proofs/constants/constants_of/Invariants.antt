use Rattle.std.proofs.Common.{◌≡◌, ◌++◌, drop}
use Rattle.std.specs.List.{flat_map}
use Rattle.spv_dbg.specs.Tables.{constant_entry}
use Rattle.spv_dbg.proofs.constants.constants_of.Given as goal

abbrev pub invariant-loop-inst : goal.invariant-loop-inst
invariant-loop-inst l = l.constants.items ++ flat_map (constant_entry l.module) (drop l.inst-index l.inst-items) ≡ flat_map (constant_entry l.module) l.inst-items
