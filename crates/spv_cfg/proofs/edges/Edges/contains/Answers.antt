use Rattle.std.proofs.Common.{◌∙◌}
use Rattle.spv_cfg.proofs.edges.Edges.contains.Goals as goal

pub returns : goal.returns
returns c = rw (← c.self.view_is) (c.contains.ensures ∙ c.self.invariant.0 c.args.target c.args.source)
