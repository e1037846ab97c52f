use Rattle.std.proofs.Common.{arith}
use Rattle.spv_index.specs.Positions.{Stand}
use Rattle.spv_cfg.specs.Phis.{phi_breach}
use Rattle.spv_cfg.proofs.Walks.{lowest_more, lowest_all}
use Rattle.spv_cfg.proofs.phis.phi_breach.Goals as goal

pub loop-n-preserved : goal.loop-n-preserved
loop-n-preserved c =
    let s : Stand = record { position = c.at-stand.result.position; class = c.at-stand.result.class; inst = c.at-stand.result.inst.now } in
    lowest_more (phi_breach c.args.edges.now) c.loop-n.least c.in_ok-next.next _ _ c.args.stands.now c.loop-n.n s c.at-stand.ensures c.in_ok-next.ensures c.lower-least.ensures c.loop-n.invariant

pub returns : goal.returns
returns c = lowest_all (phi_breach c.args.edges.now) c.loop-n.least _ c.args.stands.now c.loop-n.n (omega arith) c.loop-n.invariant
