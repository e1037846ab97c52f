use Rattle.std.proofs.Common.{◌≡◌}
use Rattle.spv_group.specs.Group.{Held}
use Rattle.spv_state.specs.Program.{Program}
use Rattle.spv_search.specs.Targets.{passes_backward}
use Rattle.spv_search.proofs.BackLemmas.{IsBack}
use Rattle.spv_search.proofs.backward.search_kept.Given as goal

abbrev pub invariant-down : goal.invariant-down
invariant-down g l = record {
  back : IsBack (passes_backward (g.H.Hits.hits l.fn.hits) l.search.command l.search.focus.inv l.fn.group.group) l.search.focus.inv l.fn.group l.group l.way;
  hits : (x : Held) → g.H.Hits.hits l.hits x ≡ g.H.Hits.hits l.fn.hits x;
  told : (x : Held) → g.H.Hits.told l.hits x ≡ g.H.Hits.told l.fn.hits x;
  suits : (p : Program) → g.H.Hits.suits l.fn.hits p → g.H.Hits.suits l.hits p;
  tests : g.H.Hits.tests l.hits ≡ g.H.Hits.tests l.fn.hits;
  follows : g.H.Hits.follows l.hits l.group.group;
  noted : g.H.Hits.noted l.hits l.group.group;
  counted : l.steps ≡ l.fn.steps;
}

abbrev pub decreases-down : goal.decreases-down
decreases-down g l = l.group.group.position
