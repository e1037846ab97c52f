use Rattle.std.proofs.Common.{◌≡◌, ◌∙◌, Bool, Option, None, Some, subst, sym, ap}
use Rattle.std.specs.Prelude.{option_map}
use Rattle.spv_base.specs.declared.values.Value.{Value, out-Value}
use Rattle.spv_dbg.specs.Tables.{names_scalar}
use Rattle.spv_frame.specs.declared.events.Captured.{Captured}
use Rattle.spv_frame.specs.Events.{IsPlain, seen}
use Rattle.spv_types.specs.Shapes.{pointer_in}
use Rattle.spv_expr.specs.Expressions as spec
use Rattle.spv_expr.proofs.EntryLemmas.{data_captured}
use Rattle.spv_expr.proofs.entries.captured.Goals as goal

pub returns-in-Data : goal.returns-in-Data
returns-in-Data c =
    let t = c.args.tables.now in
    let row = c.in-Data.row in
    let value : Some row ≡ c.args.event.now.value = ap seen (sym c.in-Data.is) ∙ c.captured.ensures.captured in
    let plain : ∥ pointer_in (out-Value row) ≡ None ∥₁ = subst (λ (x : Captured). ∥ IsPlain x ∥₁) c.in-Data.is c.captured.ensures.plain in
    let same : spec.typed c.names_scalar.result c.as_part.result ≡ spec.typed (names_scalar t c.args.word) row =
    ap (λ (b : Bool). spec.typed b c.as_part.result) c.names_scalar.ensures ∙ ap (spec.typed (names_scalar t c.args.word)) c.as_part.ensures in
    ap Some (c.typed.ensures ∙ same ∙ sym (data_captured t c.args.word row plain))
    ∙ ap (λ (o : Option Value). option_map (spec.captured t c.args.word) o) value
