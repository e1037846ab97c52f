use Rattle.std.proofs.Common.{◌<◌, drop}
use Rattle.std.specs.Prelude.{◌↔◌}
use Rattle.std.specs.List.{AllByRecursion}
use Rattle.spv_base.specs.Order.{Ascend}
use Rattle.spv_ops.proofs.module.stand_in_order.Given as goal

-- what is left has to stand behind the last one
abbrev pub invariant-loop-inst : goal.invariant-loop-inst
invariant-loop-inst l = (Ascend 0 l.insts × AllByRecursion (λ i. i.word < 1048576) l.insts)
    ↔ (Ascend l.next (drop l.inst-index l.insts) × AllByRecursion (λ i. i.word < 1048576) (drop l.inst-index l.insts))
