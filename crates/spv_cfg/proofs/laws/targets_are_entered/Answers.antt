use Rattle.std.proofs.Common.{[], sym, ap}
use Rattle.spv_index.specs.Classes.{sets_of}
use Rattle.spv_index.specs.Positions.{outside, stands_of}
use Rattle.spv_cfg.specs.Flow.{Flow}
use Rattle.spv_cfg.proofs.FlowLemmas.{flow_accepted}
use Rattle.spv_cfg.proofs.BlockLaws.{blocks_are_entered}
use Rattle.spv_cfg.proofs.TargetLaws.{branches_are_entered, target_entered}
use Rattle.spv_cfg.proofs.laws.targets_are_entered.Goals as goal

pub returns : goal.returns
returns c = λ insts f is.
    let accepted = flow_accepted insts f is in
    let entered = blocks_are_entered f (sets_of insts) outside insts [] accepted.whole (sym (ap (λ (g : Flow). g.blocks) accepted.flow)) in
    branches_are_entered f insts (stands_of insts) (target_entered f insts entered) accepted.branches
