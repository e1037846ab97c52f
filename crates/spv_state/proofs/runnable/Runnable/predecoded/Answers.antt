use Rattle.std.proofs.Common.{◌≡◌, ◌∙◌, Some, List, Option, length, refl, slice_get, sym, ap, subst}
use Rattle.std.proofs.lemmas.Option.{slice_get_read}
use Rattle.spv_base.specs.declared.instructions.Inst.{Inst}
use Rattle.spv_index.specs.Definitions.{at, number_at}
use Rattle.spv_state.specs.Predecoded.{IsPredecoded}
use Rattle.spv_state.specs.Program.{Program}
use Rattle.spv_state.specs.declared.predecoded.Predecoded.{Predecoded}
use Rattle.spv_state.proofs.SourceLemmas.{predecoded_at}
use Rattle.spv_state.proofs.runnable.Runnable.predecoded.Goals as goal

pub returns-in-Some : goal.returns-in-Some
returns-in-Some c =
    let a = c.self.inside.accepted in
    let ps = c.self.inside.lookups.predecoded.items in
    let found : Some c.in_ok-number.number ≡ number_at a.insts c.args.pc
    = sym c.in_ok-number.was ∙ c.number_at.ensures.number ∙ ap (λ (is : List Inst). number_at is c.args.pc) c.index.ensures.insts in
    let item : slice_get c.deref.result.now c.in_ok-number.number ≡ Some c.in_ok-predecoded.field-0.now
    = slice_get_read c.deref.result.now (length c.deref.result.now) c.in_ok-number.number c.in_ok-predecoded.field-0.now refl c.in_ok-predecoded.ensures.lookup.3.0 c.in_ok-predecoded.ensures.lookup.1 in
    let entry : slice_get ps c.in_ok-number.number ≡ Some (Some c.in-Some.predecoded)
    = ap (λ (qs : List (Option Predecoded)). slice_get qs c.in_ok-number.number) (sym c.deref.ensures.value) ∙ item ∙ ap Some c.in-Some.is in
    subst (λ (r : Program). (d : Inst) → at r.accepted.insts c.args.pc ≡ Some d → ∥ IsPredecoded r.accepted d c.in-Some.predecoded ∥₁) c.self.view_is
    (predecoded_at a ps c.args.pc c.in_ok-number.number c.in-Some.predecoded c.self.invariant.3 found entry)
