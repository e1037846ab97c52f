use Rattle.std.proofs.Common.{nat_cmp}
use Rattle.std.specs.BTreeMap.{get}
use Rattle.spv_index.specs.Keys.{pair_cmp}
use Rattle.spv_bodies.proofs.TermLemmas.{all_differ}
use Rattle.spv_bodies.proofs.terms.Terms.differ.Goals as goal

pub returns : goal.returns
returns c = rw (← c.self.view_is) (all_differ c.self.inside.nodes.items (λ k. get nat_cmp c.self.inside.numbers k) (λ x y. get pair_cmp c.self.inside.pairs (x, y)) c.self.invariant.numbers_are c.self.invariant.pairs_are)
