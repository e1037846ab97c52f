use Rattle.std.proofs.Common.{◌≡◌, length, arith}
use Rattle.spv_cfg.proofs.ChainLemmas.{numbered-small}
use Rattle.spv_cfg.proofs.calls.Calls.count.Goals as goal

pub returns-clause-numbers : goal.returns-clause-numbers
returns-clause-numbers c =
    let functions = c.self.inside.functions in
    let len : functions.len ≡ length functions.items = functions.ok.0 in
    rw (← c.self.view_is) (λ id. numbered-small 0 c.len.result functions.items id (omega arith))
