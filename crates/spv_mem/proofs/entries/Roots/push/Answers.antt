use Rattle.std.proofs.Common.{◌∙◌, ap}
use Rattle.spv_base.specs.Entries.{reads}
use Rattle.spv_mem.specs.Roots.{distinct}
use Rattle.spv_mem.proofs.RootLemmas.{distinct_snoc}
use Rattle.spv_mem.proofs.entries.Roots.push.Goals as goal

pub invariant_of-self-2 : goal.invariant_of-self-2
invariant_of-self-2 c =
    ap distinct c.in_ok-push.ensures.items ∙ distinct_snoc c.self.inside.entries.items c.args.id c.args.variable c.self.invariant (ap (reads c.args.id) c.self.view_is ∙ c.requires)
