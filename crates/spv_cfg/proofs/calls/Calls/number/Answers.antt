use Rattle.std.proofs.Common.{◌+◌, ◌≤◌, length, arith}
use Rattle.spv_cfg.proofs.ChainLemmas.{numbered-small}
use Rattle.spv_cfg.proofs.calls.Calls.number.Goals as goal

pub returns-clause-within : goal.returns-clause-within
returns-clause-within c =
    let functions = c.self.inside.functions.items in
    let all : 0 + length functions ≤ length functions = omega arith in
    rw (← c.self.view_is, c.get.ensures, c.self.invariant.0) (numbered-small 0 (length functions) functions c.args.function all)
