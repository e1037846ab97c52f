use Rattle.std.proofs.Common.{◌≡◌, take}
use Rattle.spv_initial.specs.Variables.{declared_in}
use Rattle.spv_initial.proofs.variables.declared_in.Given as goal

abbrev pub invariant-loop-inst : goal.invariant-loop-inst
invariant-loop-inst l = l.list.items ≡ declared_in l.types (take l.inst-index l.insts)
