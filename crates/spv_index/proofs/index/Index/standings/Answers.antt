use Rattle.std.proofs.Common.{◌∙◌, ap, length}
use Rattle.spv_ops.specs.Module.{Decoded}
use Rattle.spv_index.specs.Positions.{outside}
use Rattle.spv_index.proofs.StandLemmas.{standings_length, stands_length}
use Rattle.spv_index.proofs.index.Index.standings.Goals as goal

pub returns-clause-len : goal.returns-clause-len
returns-clause-len c =
    ap length (c.deref.ensures.value ∙ c.self.invariant.standings_are) ∙ standings_length _ ∙ stands_length _ outside _ ∙ ap (λ (m : Decoded). length m.insts) c.self.view_is
