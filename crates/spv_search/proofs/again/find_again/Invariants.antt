use Rattle.std.proofs.Common.{◌≡◌, ◌≤◌, ◌-◌, ◌+◌, max}
use Rattle.spv_group.specs.Group.{Held, group_at, window_in}
use Rattle.spv_state.specs.Program.{Program}
use Rattle.spv_search.specs.Again.{IsFoundOf}
use Rattle.spv_search.specs.Costs.{return_cost}
use Rattle.spv_search.specs.Told.{has_probe}
use Rattle.spv_search.specs.Keys.{depth_in}
use Rattle.spv_search.proofs.again.find_again.Given as goal

abbrev pub invariant-up : goal.invariant-up
invariant-up g l = record {
  same : l.group.group ≡ group_at l.group.group.position l.fn.group.group;
  limit : l.group.limit ≡ l.fn.group.limit;
  until : l.group.group.position ≤ l.end;
  kept : l.group.kept ≤ max l.fn.group.kept (window_in l.group);
  counted : l.fn.steps ≤ l.steps;
  cost : l.steps ≤ l.fn.steps + return_cost (has_probe (g.H.Hits.tests l.fn.hits)) l.fn.group.kept l.fn.group.group.position 0 + l.group.group.position;
  hits : (x : Held) → g.H.Hits.hits l.hits x ≡ g.H.Hits.hits l.fn.hits x;
  told : (x : Held) → g.H.Hits.told l.hits x ≡ g.H.Hits.told l.fn.hits x;
  suits : (p : Program) → g.H.Hits.suits l.fn.hits p → g.H.Hits.suits l.hits p;
  tests : g.H.Hits.tests l.hits ≡ g.H.Hits.tests l.fn.hits;
  follows : g.H.Hits.follows l.hits l.group.group;
  noted : g.H.Hits.noted l.hits l.group.group;
  found : (p : Held) → l.search.depth ≡ depth_in p l.search.focus.inv
      → IsFoundOf (g.H.Hits.hits l.fn.hits) l.search.command l.search.focus.inv p l.search.position l.fn.group.group l.group.group.position l.found;
}

abbrev pub decreases-up : goal.decreases-up
decreases-up g l = l.end - l.group.group.position
