use Rattle.std.proofs.Common.{[], ◌∙◌, sym, ap}
use Rattle.spv_index.specs.Classes.{sets_of}
use Rattle.spv_index.specs.Positions.{outside}
use Rattle.spv_cfg.specs.Executables.{followers_of}
use Rattle.spv_cfg.specs.Flow.{Flow}
use Rattle.spv_cfg.proofs.FlowLemmas.{flow_accepted}
use Rattle.spv_cfg.proofs.BlockLaws.{blocks_go_on}
use Rattle.spv_cfg.proofs.laws.runs_go_on.Goals as goal

pub returns : goal.returns
returns c = λ insts f ascend is.
    let accepted = flow_accepted insts f is in
    let blocks = sym (ap (λ (g : Flow). g.blocks) accepted.flow) in
    blocks_go_on f (sets_of insts) outside 0 insts [] (ap (λ (g : Flow). g.nexts) accepted.flow ∙ ap followers_of blocks) ascend tt accepted.whole blocks
