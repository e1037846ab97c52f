use Rattle.std.proofs.Common.{◌≡◌, ◌∙◌, Some, subst, sym, ap}
use Rattle.spv_frame.specs.declared.events.Captured.{Captured}
use Rattle.spv_frame.specs.Events.{IsPlain, seen}
use Rattle.spv_expr.proofs.SourceLemmas.{data_same}
use Rattle.spv_expr.proofs.sources.piece_source.Goals as goal

pub returns-in-Data : goal.returns-in-Data
returns-in-Data c =
    let row = c.in-Data.field-0 in
    let value : Some row ≡ c.args.event.now.value = ap seen (sym c.in-Data.is) ∙ c.captured.ensures.captured in
    let plain = subst (λ (x : Captured). ∥ IsPlain x ∥₁) c.in-Data.is c.captured.ensures.plain in
    λ inv m n reads. data_same c.args.tables.now c.args.debug.now c.args.event.now row (sym value) plain inv m n
