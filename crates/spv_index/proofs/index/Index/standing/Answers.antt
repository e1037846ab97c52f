use Rattle.std.proofs.Common.{◌∙◌, ap, map, slice_get}
use Rattle.std.specs.Option.{option_and_then}
use Rattle.spv_ops.specs.Module.{Decoded}
use Rattle.spv_index.specs.Positions.{standing, stands_of}
use Rattle.spv_index.proofs.StandingLemmas.{standing_of}
use Rattle.spv_index.proofs.index.Index.standing.Goals as goal

pub returns : goal.returns
returns c =
    c.standing_with.ensures ∙ ap (λ s. option_and_then (slice_get s) c.number_of.result)
    (c.deref.ensures.value ∙ c.self.invariant.standings_are ∙ ap (λ (m : Decoded). map standing (stands_of m.insts)) c.self.view_is)
    ∙ standing_of _ c.args.id _ c.number_of.ensures.number
