use Rattle.std.proofs.Common.{◌≤◌, length, drop, Some}
use Rattle.spv_bodies.specs.Matching.{members_term, term_among}
use Rattle.spv_bodies.specs.Terms.{Grows, IsClass}
use Rattle.spv_bodies.proofs.classes.members_class.Given as goal

-- the members from here on have their class
abbrev pub invariant-back : goal.invariant-back
invariant-back l = record {
  grows : Grows l.fn.terms l.terms;
  within : l.n ≤ length l.members;
  rest : IsClass l.terms (Some l.rest) (members_term (term_among l.types l.limit) (drop l.n l.members));
}

abbrev pub decreases-back : goal.decreases-back
decreases-back l = l.n
