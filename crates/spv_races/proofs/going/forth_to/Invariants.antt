use Rattle.std.proofs.Common.{◌≡◌, ◌≤◌, ◌-◌}
use Rattle.spv_group.specs.Group.{Held}
use Rattle.spv_state.specs.Program.{Program}
use Rattle.spv_races.proofs.WayLemmas.{IsOn}
use Rattle.spv_races.proofs.going.forth_to.Given as goal

abbrev pub invariant-up : goal.invariant-up
invariant-up g l = record {
  on : IsOn l.fn.group l.group l.fn.steps l.steps;
  until : l.group.group.position ≤ l.target;
  hits : (x : Held) → g.H.Hits.hits l.hits x ≡ g.H.Hits.hits l.fn.hits x;
  told : (x : Held) → g.H.Hits.told l.hits x ≡ g.H.Hits.told l.fn.hits x;
  suits : (p : Program) → g.H.Hits.suits l.fn.hits p → g.H.Hits.suits l.hits p;
  tests : g.H.Hits.tests l.hits ≡ g.H.Hits.tests l.fn.hits;
  follows : g.H.Hits.follows l.hits l.group.group;
}

abbrev pub decreases-up : goal.decreases-up
decreases-up g l = l.target - l.group.group.position
