use Rattle.std.proofs.Common.{◌≡◌, ◌∙◌, length, sym, ap}
use Rattle.spv_frame.specs.Frames.{Held}
use Rattle.spv_frame.specs.Registers.{Planned}
use Rattle.spv_frame.proofs.ListingLemmas.{listed}
use Rattle.spv_frame.proofs.frames.Frame.pointer_count.Goals as goal

pub returns : goal.returns
returns c =
    let l = listed c.args.self.now c.self.inside.plan.value c.self.inside.pc c.self.inside.row c.self.inside.has.items c.self.inside.pointers.items c.self.inside.events.items c.self.view_is c.self.invariant in
    let plan : c.deref.result.now ≡ c.args.self.now.plan = c.deref.ensures ∙ ap (λ (x : Held). x.plan) c.self.view_is in
    c.pointer_count.ensures ∙ ap (λ (p : Planned). length p.pointers) plan ∙ sym l.pointers
