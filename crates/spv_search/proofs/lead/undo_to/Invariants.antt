use Rattle.std.proofs.Common.{◌≡◌, ◌≤◌}
use Rattle.spv_group.specs.Group.{Held, group_at}
use Rattle.spv_state.specs.Program.{Program}
use Rattle.spv_search.proofs.lead.undo_to.Given as goal

abbrev pub invariant-down : goal.invariant-down
invariant-down g l = record {
  same : l.group.group ≡ group_at l.group.group.position l.fn.group.group;
  limit : l.group.limit ≡ l.fn.group.limit;
  kept : l.group.kept ≡ l.fn.group.kept;
  earlier : l.group.group.position ≤ l.fn.group.group.position;
  until : l.target ≤ l.group.group.position;
  counted : l.steps ≡ l.fn.steps;
  hits : (x : Held) → g.H.Hits.hits l.hits x ≡ g.H.Hits.hits l.fn.hits x;
  told : (x : Held) → g.H.Hits.told l.hits x ≡ g.H.Hits.told l.fn.hits x;
  suits : (p : Program) → g.H.Hits.suits l.fn.hits p → g.H.Hits.suits l.hits p;
  tests : g.H.Hits.tests l.hits ≡ g.H.Hits.tests l.fn.hits;
  follows : g.H.Hits.follows l.hits l.group.group;
}

abbrev pub decreases-down : goal.decreases-down
decreases-down g l = l.group.group.position
