use Rattle.spv_types.proofs.OffsetLemmas.{leaf_inside}
use Rattle.spv_types.proofs.WholeLemmas.{types_whole}
use Rattle.spv_types.proofs.rows.limits_leave_leaves_whole.Goals as goal

pub returns-clause-cells : goal.returns-clause-cells
returns-clause-cells c = types_whole

pub returns-clause-within : goal.returns-clause-within
returns-clause-within c = λ ts id leaf part k path sound is to inside. leaf_inside ts sound path id leaf part k is to inside
