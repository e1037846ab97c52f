use Rattle.std.proofs.Common.{◌∙◌, sym, arith}
use Rattle.std.proofs.lemmas.Result.{IfOk-equal}
use Rattle.spv_parts.specs.Kept.{kept_part}
use Rattle.spv_parts.specs.Parts.{member_type, whole}
use Rattle.spv_print.specs.Layouts.{put_part}
use Rattle.spv_print.proofs.LayoutLemmas.{array_put, elements_next, members_rest, none_put, plain_put}
use Rattle.spv_print.proofs.writers.Writer.+writes.Goals as goal

pub elements-loop-number-preserved : goal.elements-loop-number-preserved
elements-loop-number-preserved t c =
    elements_next (λ l. put_part c.args.self.now.tables.now c.args.self.now.size c.args.depth l (kept_part c.args.element)) c.args.last c.is_last.result c.args.count c.loop-number.number c.loop-number.sheet _ _ _
    c.loop-number-test.true (sym c.is_full.ensures ∙ c.if-is_full.false) c.in_ok-put_separator.ensures c.is_last.ensures c.in_ok-part.ensures c.loop-number.invariant

pub members-returns-then-is_full : goal.members-returns-then-is_full
members-returns-then-is_full t c =
    IfOk-equal c.put_rest.result _ _ _ c.put_rest.ensures
    (members_rest (λ id l. put_part c.args.self.now.tables.now c.args.self.now.size c.args.depth l (whole (member_type c.args.self.now.tables.now id))) c.args.last c.args.ids.now c.loop-number.number c.loop-number.sheet _
    c.loop-number-test.true (sym c.is_full.ensures ∙ c.if-is_full.true) c.loop-number.invariant)

pub part-returns-then-depth-eq0 : goal.part-returns-then-depth-eq0
part-returns-then-depth-eq0 t c =
    IfOk-equal c.put_unavailable.result _ _ _ c.put_unavailable.ensures
    (sym (none_put c.args.self.now.tables.now c.args.self.now.size c.args.depth c.args.last (kept_part c.args.part) c.args.sheet.now c.if-depth-eq0.true))

pub part-returns-in-Some : goal.part-returns-in-Some
part-returns-in-Some t c =
    IfOk-equal c.array.result _ _ _ c.array.ensures
    (sym (array_put c.args.self.now.tables.now c.args.self.now.size c.args.depth c.args.last (kept_part c.args.part) (kept_part c.in-Some.array) c.args.sheet.now (omega (arith, c.if-depth-eq0.false)) (sym c.in-Some.ensures)))

pub part-returns-in-None : goal.part-returns-in-None
part-returns-in-None t c =
    IfOk-equal c.of_plain.result _ _ _ c.of_plain.ensures
    (sym (plain_put c.args.self.now.tables.now c.args.self.now.size c.args.depth c.args.last (kept_part c.args.part) c.args.sheet.now (omega (arith, c.if-depth-eq0.false)) (sym c.in-None.ensures)))
