use Rattle.std.proofs.Common.{◌≤◌, length, take}
use Rattle.spv_expr.specs.declared.sources.Source.{Source}
use Rattle.spv_expr.specs.Looks.{IsLocalSource}
use Rattle.spv_expr.proofs.sources.local_source.Given as goal

-- where the memory is read for what is left, it is read for all
abbrev pub invariant-back : goal.invariant-back
invariant-back l = record {
  least : l.k ≤ length l.events;
  left : (s : Source) → IsLocalSource l.tables l.instance l.span (take l.k l.events) s → IsLocalSource l.tables l.instance l.span l.events s;
}

abbrev pub decreases-back : goal.decreases-back
decreases-back l = l.k
