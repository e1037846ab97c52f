use Rattle.std.proofs.Common.{◌≡◌, ◌+◌, length}
use Rattle.spv_group.specs.Group.{Held, group_at}
use Rattle.spv_state.specs.Program.{Program}
use Rattle.spv_search.specs.Told.{IsPast}
use Rattle.spv_search.proofs.lead.tell_back.Given as goal

abbrev pub invariant-down : goal.invariant-down
invariant-down g l = record {
  hits : (x : Held) → g.H.Hits.hits l.hits x ≡ g.H.Hits.hits l.fn.hits x;
  told : (x : Held) → g.H.Hits.told l.hits x ≡ g.H.Hits.told l.fn.hits x;
  suits : (p : Program) → g.H.Hits.suits l.fn.hits p → g.H.Hits.suits l.hits p;
  tests : g.H.Hits.tests l.hits ≡ g.H.Hits.tests l.fn.hits;
  follows : (x : Held) → IsPast l.module l.fn.past.events.items x → g.H.Hits.suits l.fn.hits x.program
      → g.H.Hits.follows l.fn.hits (group_at (x.position + length l.fn.past.events.items) x)
      → IsPast l.module l.past.events.items x × g.H.Hits.follows l.hits (group_at (x.position + length l.past.events.items) x);
}

abbrev pub decreases-down : goal.decreases-down
decreases-down g l = length l.past.events.items
