use Rattle.std.proofs.Common.{◌≡◌, ◌<◌, Some, length, refl, slice_get, subst, sym}
use Rattle.std.proofs.lemmas.Option.{slice_get_read}
use Rattle.spv_mem.specs.Memory.{Held, Levels}
use Rattle.spv_mem.proofs.storage.Memory.has_room.Goals as goal

pub returns : goal.returns
returns c =
    let inside : c.args.inv < length c.self.inside.locals.items = subst (λ (m : Held). c.args.inv < length m.locals) (sym c.self.view_is) c.requires in
    let here = slice_get_read c.self.inside.locals.items (length c.self.inside.locals.items) c.args.inv c.index.result.now refl inside c.index.ensures in (
      λ h l at.
          let there : slice_get c.self.inside.locals.items c.args.inv ≡ Some l = subst (λ (m : Held). slice_get m.locals c.args.inv ≡ Some l) (sym c.self.view_is) at in
          let same : c.index.result.now ≡ l = cc in
          subst (λ (x : Levels). length x.list < x.room) same (c.has_room.ensures.0 h),
      λ room. c.has_room.ensures.1 (room c.index.result.now (subst (λ (m : Held). slice_get m.locals c.args.inv ≡ Some c.index.result.now) c.self.view_is here)),
    )
