use Rattle.std.proofs.Common.{[], refl, sym, ap}
use Rattle.spv_index.specs.Classes.{sets_of}
use Rattle.spv_index.specs.Positions.{outside}
use Rattle.spv_cfg.specs.Branches.{labels_of}
use Rattle.spv_cfg.specs.Calls.{calls_of, functions_of}
use Rattle.spv_cfg.specs.Flow.{Flow}
use Rattle.spv_cfg.proofs.FlowLemmas.{flow_accepted}
use Rattle.spv_cfg.proofs.FunctionLaws.{depths_are_known, functions_begin}
use Rattle.spv_cfg.proofs.laws.functions_are_entered.Goals as goal

pub returns-clause-depth : goal.returns-clause-depth
returns-clause-depth c = λ insts f is.
    let accepted = flow_accepted insts f is in
    depths_are_known f (calls_of insts) (functions_of insts) (sets_of insts) outside insts [] (ap (λ (g : Flow). g.depths) accepted.flow) accepted.calls refl

pub returns-clause-first_block : goal.returns-clause-first_block
returns-clause-first_block c = λ insts f is.
    let accepted = flow_accepted insts f is in
    functions_begin f (labels_of insts) (sets_of insts) outside insts [] [] accepted.whole refl (sym (ap (λ (g : Flow). g.blocks) accepted.flow))
