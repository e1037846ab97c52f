use Rattle.std.proofs.Common.{◌∙◌, ap, sym}
use Rattle.std.proofs.lemmas.Result.{IfOk-equal}
use Rattle.spv_show.specs.Elements.{with_elements}
use Rattle.spv_show.specs.Sheets.{Written, put_among, put_named}
use Rattle.spv_show.proofs.LoopLemmas.{members_done, members_next, members_rest, row_next, row_rest}
use Rattle.spv_show.proofs.SheetLemmas.{none_put}
use Rattle.spv_show.proofs.values.Writer.+writes.Goals as goal

pub among-returns-in-None : goal.among-returns-in-None
among-returns-in-None t c = rw (none_put c.args.self.now.elements c.args.self.now.types.now c.args.self.now.cells.now c.args.limit c.args.ty c.args.sheet.now (sym c.in-None.ensures)) c.put_unavailable.ensures

pub elements-loop-number-preserved : goal.elements-loop-number-preserved
elements-loop-number-preserved t c =
    row_next (put_among (with_elements c.args.self.now.elements c.args.self.now.types.now) c.args.self.now.cells.now c.args.limit c.args.ty) c.args.count c.loop-number.number c.loop-number.sheet _ _ _ c.loop-number-test.true (sym c.is_full.ensures ∙ c.if-is_full.false) c.in_ok-put_separator.ensures c.in_ok-among.ensures c.loop-number.invariant

pub elements-returns-then-is_full : goal.elements-returns-then-is_full
elements-returns-then-is_full t c =
    IfOk-equal c.put_rest.result _ _ _ c.put_rest.ensures
    (row_rest (put_among (with_elements c.args.self.now.elements c.args.self.now.types.now) c.args.self.now.cells.now c.args.limit c.args.ty) c.args.count c.loop-number.number c.loop-number.sheet _ c.loop-number-test.true (sym c.is_full.ensures ∙ c.if-is_full.true) c.loop-number.invariant)

pub of_members-loop-number-preserved : goal.of_members-loop-number-preserved
of_members-loop-number-preserved t c =
    members_next (put_among (with_elements c.args.self.now.elements c.args.self.now.types.now) c.args.self.now.cells.now c.args.limit) c.args.members.now _ c.loop-number.number c.loop-number.sheet c.put_name.new.self _ _ c.loop-number-test.true (sym c.is_full.ensures ∙ c.if-is_full.false)
    (c.in_ok-put_name.ensures ∙ ap (λ (s : Written). put_named c.loop-number.number (λ r. r) s) c.in_ok-put_separator.ensures) c.in_ok-among.ensures c.loop-number.invariant

pub of_members-returns-then-is_full : goal.of_members-returns-then-is_full
of_members-returns-then-is_full t c =
    IfOk-equal c.put_rest.result _ _ _ c.put_rest.ensures
    (members_rest (put_among (with_elements c.args.self.now.elements c.args.self.now.types.now) c.args.self.now.cells.now c.args.limit) c.args.members.now c.loop-number.number c.loop-number.sheet _ c.loop-number-test.true (sym c.is_full.ensures ∙ c.if-is_full.true) c.loop-number.invariant)

pub of_members-returns : goal.of_members-returns
of_members-returns t c = members_done (put_among (with_elements c.args.self.now.elements c.args.self.now.types.now) c.args.self.now.cells.now c.args.limit) c.args.members.now c.loop-number.number c.loop-number.sheet _ c.loop-number-test.false c.loop-number.invariant
