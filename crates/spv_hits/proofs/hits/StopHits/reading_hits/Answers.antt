use Rattle.std.proofs.Common.{◌≡◌, ◌∙◌, false, subst, sym}
use Rattle.std.specs.List.{list_any}
use Rattle.spv_group.specs.Group.{state_in}
use Rattle.spv_hits.specs.Kept.{AreAlike, IsNoted, Stopping, differs}
use Rattle.spv_hits.proofs.HitLemmas.{noted_with}
use Rattle.spv_hits.proofs.hits.StopHits.reading_hits.Goals as goal

pub returns-clause-noted : goal.returns-clause-noted
returns-clause-noted c = λ o noted same.
    let s = c.args.self.now in
    let g = c.args.group.now.group in
    let alike = same.calls c.requires.some in
    let none : list_any (differs s.tables o g) s.watches.0 ≡ false = sym (c.in_ok-any_changed.ensures.changed o noted same.memory alike) ∙ c.if-branch.false in
    let noting = subst
    (λ (r : Stopping). IsNoted r o → AreAlike r.tables r.watches.0 r.same.calls.items (state_in o) (state_in g) → list_any (differs r.tables o g) r.watches.0 ≡ false → IsNoted c.note_places.new.self g)
    c.any_changed.ensures.rest (c.in_ok-note_places.ensures.noted o) in
    noting (noted_with s c.any_changed.new.self.same o noted) (λ n w at marked. alike n w at (c.any_changed.ensures.marks n marked)) none
