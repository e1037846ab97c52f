use Rattle.std.proofs.Common.{◌≡◌, ◌∙◌, length, map, ap, arith}
use Rattle.spv_frame.specs.Registers.{Planned, sizes}
use Rattle.spv_frame.specs.Frames.{cells_in, trees}
use Rattle.spv_frame.specs.Plans.{rooms}
use Rattle.spv_frame.proofs.FrameLemmas.{begins_as, rooms_long}
use Rattle.spv_frame.proofs.frames.Frame.new.Goals as goal

pub returns : goal.returns
returns c =
    let p : Planned = c.args.plan.now.value in
    let cloned : c.in_ok-clone.field-0.value ≡ p = c.in_ok-clone.ensures.cases in
    let first : c.behind-plan.inside.first ≡ p.first = ap (λ (x : Planned). x.first) (c.behind-plan.view_is ∙ c.deref.ensures) in
    let sized : map cells_in (trees c.behind-plan-2.inside.blank) ≡ sizes p.values = c.behind-plan-2.invariant.1 ∙ ap (λ (x : Planned). sizes x.values) (c.behind-plan-2.view_is ∙ c.deref-2.ensures) in
    let row = c.in_ok-of_part.ensures ∙ c.as_part.ensures in
    let values : length (rooms c.behind-plan-3.inside.values.items) ≡ length p.values = ap (λ (x : Planned). length x.values) (c.behind-plan-3.view_is ∙ c.deref-3.ensures) in
    let counted = rooms_long c.behind-plan-3.inside.values.items in
    let pointers : length c.behind-plan-4.inside.pointers.items ≡ length p.pointers = ap (λ (x : Planned). length x.pointers) (c.behind-plan-4.view_is ∙ c.deref-4.ensures) in
    let many : c.len.result ≡ length p.values = omega arith in
    let places : c.len-2.result ≡ length p.pointers = omega arith in
    begins_as p _ _ c.behind-plan-2.inside.blank _ c.len.result c.len-2.result _ _ _ cloned first row sized many places c.in_ok-no_marks.ensures c.in_ok-no_pointers.ensures c.new.ensures.items
