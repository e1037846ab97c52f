use Rattle.std.proofs.Common.{◌≡◌, ◌<◌, None, Some, length, refl, slice_get, subst, sym}
use Rattle.std.proofs.lemmas.Option.{slice_get_read}
use Rattle.spv_base.specs.Entries.{reads}
use Rattle.spv_base.specs.Variables.{Roots}
use Rattle.spv_mem.specs.Memory.{Held}
use Rattle.spv_mem.proofs.storage.Memory.is_fresh_private.Goals as goal

pub returns : goal.returns
returns c =
    let inside : c.args.inv < length c.self.inside.privates.items = subst (λ (m : Held). c.args.inv < length m.privates) (sym c.self.view_is) c.requires in
    let here = slice_get_read c.self.inside.privates.items (length c.self.inside.privates.items) c.args.inv c.index.result.now refl inside c.index.ensures in
    let now : slice_get c.args.self.now.privates c.args.inv ≡ Some c.index.result.now = subst (λ (m : Held). slice_get m.privates c.args.inv ≡ Some c.index.result.now) c.self.view_is here in (
      λ h es at. let same : c.index.result.now ≡ es = cc in subst (λ (rs : Roots). reads c.args.id rs ≡ None) same (c.has_none.ensures.0 h),
      λ none. c.has_none.ensures.1 (none c.index.result.now now),
    )
