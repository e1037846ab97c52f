use Rattle.std.proofs.Common.{◌≡◌, ◌≤◌, ◌+◌, ◌-◌, max}
use Rattle.spv_group.specs.Group.{group_at, window_in}
use Rattle.spv_session.proofs.motions.run_on.Given as goal

abbrev pub invariant-up : goal.invariant-up
invariant-up g l = record {
  same : l.group.group ≡ group_at l.group.group.position l.fn.group.group;
  limit : l.group.limit ≡ l.fn.group.limit;
  later : l.fn.group.group.position ≤ l.group.group.position;
  until : l.group.group.position ≤ max l.fn.group.group.position l.target;
  counted : l.steps ≡ l.fn.steps + (l.group.group.position - l.fn.group.group.position);
  kept : l.group.kept ≤ max l.fn.group.kept (window_in l.group);
  suits : g.H.Hits.suits l.hits l.fn.group.group.program;
  tests : g.H.Hits.tests l.hits ≡ g.H.Hits.tests l.fn.hits;
  follows : g.H.Hits.follows l.hits l.group.group;
}

abbrev pub decreases-up : goal.decreases-up
decreases-up g l = l.target - l.group.group.position
