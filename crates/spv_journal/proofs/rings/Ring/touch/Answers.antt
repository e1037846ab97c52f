use Rattle.std.proofs.Common.{◌≡◌, ◌∙◌, Some, slice_get, subst, sym}
use Rattle.std.specs.Option.{IsSomeAnd}
use Rattle.std.specs.Prelude.{IfSome}
use Rattle.spv_journal.specs.Events.{newest}
use Rattle.spv_journal.specs.Rings.{Ringed}
use Rattle.spv_journal.specs.Touches.{IsTouchOf}
use Rattle.spv_journal.proofs.TouchLemmas.{split_touch, whole_touch}
use Rattle.spv_journal.proofs.rings.Ring.touch.Goals as goal

pub returns-in-0 : goal.returns-in-0
returns-in-0 c =
    let r = c.self.inside in
    let k = c.in_ok-mark.mark.now in
    let first : slice_get r.marks.items 0 ≡ Some k = let e = c.front.ensures in let f = c.in_ok-mark.ensures in cc in
    subst (λ (x : Ringed). IsSomeAnd (newest x.events) (λ v. IsTouchOf v.changes c.touch-touch.result)) c.self.view_is
    (whole_touch r.marks.items r.entries.items k c.touch-touch.result first (sym c.beside.ensures ∙ c.in-0.is) c.touch-touch.ensures)

pub returns-in_default : goal.returns-in_default
returns-in_default c =
    let r = c.self.inside in
    let k = c.in_ok-mark.mark.now in
    let first : slice_get r.marks.items 0 ≡ Some k = let e = c.front.ensures in let f = c.in_ok-mark.ensures in cc in
    subst (λ (x : Ringed). IfSome c.touch_beside.result (λ t. IsSomeAnd (newest x.events) (λ v. IsTouchOf v.changes t))) c.self.view_is
    (split_touch c.touch_beside.result r.marks.items r.entries.items k c.beside.result c.touch-touch.result first c.beside.ensures c.touch-touch.ensures c.touch_beside.ensures)
