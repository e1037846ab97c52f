use Rattle.std.proofs.Common.{◌∙◌, ◌≤◌, [], ap, arith, drop, length, map}
use Rattle.std.proofs.lemmas.Grind.{common_steps}
use Rattle.spv_state.specs.Events.{entries, listed}
use Rattle.spv_state.proofs.EventLemmas.{entries_all}
use Rattle.spv_state.proofs.captures.entries_of.Goals as goal
use Rattle.std.proofs.lemmas.List.{drop_all}

pub loop-n-preserved : goal.loop-n-preserved
loop-n-preserved c = grind (arith, common_steps)

pub returns : goal.returns
returns c =
    let ss = c.stands-stands.result in
    let insts = c.args.index.now.insts in
    let done : length ss ≤ c.loop-n.n = omega (arith, c.len-n-end.ensures, c.loop-n-test.false) in
    entries_all insts c.loop-n.passed.items (map listed c.loop-n.entries.items) (drop c.loop-n.n ss) ss (drop_all c.loop-n.n ss done) c.loop-n.invariant ∙ ap (entries insts []) c.stands-stands.ensures
