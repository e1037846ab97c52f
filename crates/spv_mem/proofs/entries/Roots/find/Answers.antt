use Rattle.std.proofs.Common.{◌≡◌, ◌∙◌, ℕ, Some, length, slice_get, ap, refl, subst, sym}
use Rattle.std.proofs.lemmas.Option.{slice_get_read}
use Rattle.spv_base.specs.Variables.{Roots}
use Rattle.spv_mem.specs.Roots.{distinct}
use Rattle.spv_mem.proofs.RootLemmas.{at_place}
use Rattle.spv_mem.proofs.entries.Roots.find.Goals as goal

pub returns-in-Some : goal.returns-in-Some
returns-in-Some c =
    let same = c.deref.ensures.value ∙ c.self.view_is in
    let at = slice_get_read c.deref.result.now (length c.deref.result.now) c.args.place c.in-Some.entry.now refl (c.in-Some.ensures.lookup.3.0) (c.in-Some.ensures.lookup.1) in
    at_place c.args.id c.args.self.now c.args.place c.in-Some.entry.now.1 (sym (ap distinct c.self.view_is) ∙ c.self.invariant)
    (subst (λ (es : Roots). slice_get es c.args.place ≡ Some c.in-Some.entry.now) same at ∙ ap (λ (i : ℕ). Some (i, c.in-Some.entry.now.1)) c.if-entry-id.true)
