use Rattle.std.proofs.Common.{◌∙◌, ap, sym}
use Rattle.spv_hits.specs.Kept.{Stopping}
use Rattle.spv_hits.proofs.HitLemmas.{head_marked}
use Rattle.spv_hits.proofs.hits.StopHits.is_at_head.Goals as goal

pub returns-in-Some : goal.returns-in-Some
returns-in-Some c =
    head_marked c.self.inside.breaks.now c.args.self.now.breaks c.self.inside.heads.items c.as_slice.result.now c.args.group.now.group c.args.inv c.in-Some.pc c.is_marked.result
    (ap (λ (s : Stopping). s.breaks) c.self.view_is) c.self.invariant.heads c.as_slice.ensures.value (sym c.pc_of.ensures.word ∙ c.in-Some.is) c.is_marked.ensures
