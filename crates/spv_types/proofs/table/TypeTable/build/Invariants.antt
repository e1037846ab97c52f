use Rattle.std.proofs.Common.{◌≡◌, [], take, drop}
use Rattle.spv_types.specs.Typing.{types_in}
use Rattle.spv_types.specs.Build.{type_breaches}
use Rattle.spv_types.proofs.table.TypeTable.build.Given as goal

-- the table has the types so far, and no instruction so far is refused
abbrev pub invariant-loop-inst : goal.invariant-loop-inst
invariant-loop-inst l = record {
  types : l.table ≡ types_in l.index.insts (take l.inst-index l.module);
  refusals : type_breaches l.index.insts [] l.module ≡ type_breaches l.index.insts (take l.inst-index l.module) (drop l.inst-index l.module);
}
