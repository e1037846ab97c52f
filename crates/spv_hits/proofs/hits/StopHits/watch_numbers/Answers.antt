use Rattle.std.proofs.Common.{◌∙◌, ap, sym}
use Rattle.spv_hits.specs.Kept.{Stopping}
use Rattle.spv_hits.proofs.HitLemmas.{idle_here, if_ok, numbers_here}
use Rattle.spv_hits.proofs.hits.StopHits.watch_numbers.Goals as goal

pub returns-then-is_idle : goal.returns-then-is_idle
returns-then-is_idle c = c.new.ensures ∙ sym (idle_here c.args.self.now.tables c.args.self.now.watches c.args.group.now.group c.args.happening.now c.requires.event (sym c.is_idle.ensures ∙ c.if-is_idle.true))

pub returns : goal.returns
returns c =
    let s = c.self.view_is in
    if_ok c.changed.result _ _
    (λ numbers is. numbers_here c.args.self.now c.args.group.now.group c.args.happening.now c.self.inside.tables.now c.list.result.now c.as_slice.result.now numbers
    (ap (λ (x : Stopping). x.tables) s) (c.list.ensures.list ∙ ap (λ (x : Stopping). x.watches.0) s) (c.as_slice.ensures.value ∙ ap (λ (x : Stopping). x.bits) s) is c.requires.event c.requires.noted)
    c.changed.ensures
