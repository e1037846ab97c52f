use Rattle.std.proofs.Common.{◌∙◌, ℕ, List, sym, ap}
use Rattle.spv_dbg.specs.Saturation.{saturated_measure}
use Rattle.spv_dbg.specs.Forming.{is_right, mark_of}
use Rattle.spv_dbg.specs.Literals.{literal_of}
use Rattle.spv_dbg.specs.Marks.{known, measure_of, measured}
use Rattle.spv_dbg.proofs.MeasureLemmas.{is_marked, not_right, not_within}
use Rattle.spv_dbg.proofs.forming.mark_of.Goals as goal

pub returns-then-not-is_right : goal.returns-then-not-is_right
unfolding mark_of
returns-then-not-is_right c =
    let m = c.args.module.now in
    let marks = c.args.marks.now in
    let d = c.args.debug.now in
    not_right (is_right m marks c.args.inside d) (measured m marks d) d.number (sym c.is_right.ensures ∙ c.if-not-is_right.true)

pub returns-then-not-is_within : goal.returns-then-not-is_within
unfolding mark_of
returns-then-not-is_within c =
    let m = c.args.module.now in
    let marks = c.args.marks.now in
    let d = c.args.debug.now in
    not_within (is_right m marks c.args.inside d) (measured m marks d) c.measure_of-measure.result d.number
    (c.measure_of-measure.ensures ∙ ap (λ (ids : List ℕ). saturated_measure (measure_of (literal_of m) (known m marks) d.number ids)) c.as_slice.ensures)
    (sym c.is_within.ensures ∙ c.if-not-is_within.true)

pub returns : goal.returns
unfolding mark_of
returns c =
    let m = c.args.module.now in
    let marks = c.args.marks.now in
    let d = c.args.debug.now in
    is_marked (is_right m marks c.args.inside d) (measured m marks d) c.measure_of-measure.result d.number
    (sym c.is_right.ensures ∙ c.if-not-is_right.false)
    (c.measure_of-measure.ensures ∙ ap (λ (ids : List ℕ). saturated_measure (measure_of (literal_of m) (known m marks) d.number ids)) c.as_slice.ensures)
    (sym c.is_within.ensures ∙ c.if-not-is_within.false)
