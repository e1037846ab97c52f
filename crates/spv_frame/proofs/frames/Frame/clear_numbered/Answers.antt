use Rattle.std.proofs.Common.{arith}
use Rattle.spv_frame.proofs.NumberLemmas.{cleared}
use Rattle.spv_frame.proofs.frames.Frame.clear_numbered.Goals as goal

pub index_mut-requires : goal.index_mut-requires
index_mut-requires c =
    let l = cleared c.args.self.now c.self.inside.plan.value c.deref.result.now c.self.inside.pc c.self.inside.row c.self.inside.has.items c.self.inside.pointers.items c.self.inside.events.items c.args.number c.found-place.result.path.value c.found-place.result.start c.self.view_is c.self.invariant c.deref.ensures c.requires c.found-place.ensures.path c.found-place.ensures.start c.found-place.ensures.named in
    let i = l.within in omega arith

pub invariant_of-self : goal.invariant_of-self
invariant_of-self c =
    let l = cleared c.args.self.now c.self.inside.plan.value c.deref.result.now c.self.inside.pc c.self.inside.row c.self.inside.has.items c.self.inside.pointers.items c.self.inside.events.items c.args.number c.found-place.result.path.value c.found-place.result.start c.self.view_is c.self.invariant c.deref.ensures c.requires c.found-place.ensures.path c.found-place.ensures.start c.found-place.ensures.named in
    l.fits

pub returns : goal.returns
returns c =
    let l = cleared c.args.self.now c.self.inside.plan.value c.deref.result.now c.self.inside.pc c.self.inside.row c.self.inside.has.items c.self.inside.pointers.items c.self.inside.events.items c.args.number c.found-place.result.path.value c.found-place.result.start c.self.view_is c.self.invariant c.deref.ensures c.requires c.found-place.ensures.path c.found-place.ensures.start c.found-place.ensures.named in
    l.shows
