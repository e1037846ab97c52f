use Rattle.std.proofs.Common.{◌∙◌, ◌&&◌, ap, sym}
use Rattle.spv_hits.specs.Kept.{Stopping}
use Rattle.spv_hits.proofs.HitLemmas.{break_behind}
use Rattle.spv_hits.proofs.hits.StopHits.breaks_behind.Goals as goal

pub returns-then-lands : goal.returns-then-lands
returns-then-lands c =
    let landed = ap (λ (s : Stopping). s.landed) c.self.view_is in
    sym (ap (λ b. b && c.self.inside.landed) c.if-lands.true) ∙ break_behind c.args.self.now.breaks c.args.group.now.group c.args.happening.now c.lands.result c.self.inside.landed c.requires.event c.lands.ensures (landed ∙ c.requires.landed)
