use Rattle.std.proofs.Common.{◌≡◌, ◌-◌}
use Rattle.spv_group.specs.Group.{Held, end_in}
use Rattle.spv_state.specs.Program.{Program}
use Rattle.spv_search.specs.Keys.{key_in, named_key}
use Rattle.spv_search.specs.Targets.{passes_forward}
use Rattle.spv_search.proofs.ForwardLemmas.{IsOnward}
use Rattle.spv_search.proofs.forward.search_forward.Given as goal

abbrev pub invariant-up : goal.invariant-up
invariant-up g l = record {
  on : IsOnward (passes_forward (g.H.Hits.hits l.fn.hits) l.command l.focus.inv l.fn.group.group) l.focus.inv l.fn.group l.group l.count l.fn.steps l.steps;
  hits : (x : Held) → g.H.Hits.hits l.hits x ≡ g.H.Hits.hits l.fn.hits x;
  told : (x : Held) → g.H.Hits.told l.hits x ≡ g.H.Hits.told l.fn.hits x;
  suits : (p : Program) → g.H.Hits.suits l.fn.hits p → g.H.Hits.suits l.hits p;
  tests : g.H.Hits.tests l.hits ≡ g.H.Hits.tests l.fn.hits;
  follows : g.H.Hits.follows l.hits l.group.group;
  noted : g.H.Hits.noted l.hits l.group.group;
  from : named_key l.focus.tables.now l.from ≡ key_in l.fn.group.group l.focus.inv;
}

abbrev pub decreases-up : goal.decreases-up
decreases-up g l = end_in l.fn.group.group - l.group.group.position
