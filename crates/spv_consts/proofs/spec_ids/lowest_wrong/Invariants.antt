use Rattle.std.proofs.Common.{◌≡◌, drop}
use Rattle.spv_base.specs.Lowest.{lower}
use Rattle.spv_consts.specs.SpecIds.{lowest_wrong}
use Rattle.spv_consts.proofs.spec_ids.lowest_wrong.Given as goal

-- the lowest so far, and the lowest of the rest
abbrev pub invariant-loop-inst : goal.invariant-loop-inst
invariant-loop-inst l = lower l.lowest (lowest_wrong l.context.all (drop l.inst-index l.insts)) ≡ lowest_wrong l.context.all l.insts
