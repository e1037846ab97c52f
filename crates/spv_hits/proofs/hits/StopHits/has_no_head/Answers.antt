use Rattle.std.proofs.Common.{◌≡◌, ◌∙◌, [], subst, sym}
use Rattle.spv_hits.specs.Kept.{AreHeads, Stopping}
use Rattle.spv_hits.proofs.HitLemmas.{no_head}
use Rattle.spv_hits.proofs.NumberLemmas.{none_there}
use Rattle.spv_hits.proofs.hits.StopHits.has_no_head.Goals as goal

pub returns : goal.returns
returns c = λ e.
    let none : c.self.inside.heads.items ≡ [] = sym c.as_slice.ensures.value ∙ none_there c.as_slice.result.now (sym c.is_empty.ensures ∙ e) in
    no_head c.args.self.now.breaks
    (subst (λ (s : Stopping). AreHeads s.breaks.0 []) c.self.view_is (subst (λ marks. AreHeads c.self.inside.breaks.now.0 marks) none c.self.invariant.heads))
