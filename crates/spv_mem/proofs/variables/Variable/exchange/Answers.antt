use Rattle.std.proofs.Common.{◌≡◌, ◌∙◌, rules, sym, ap}
use Rattle.spv_base.specs.Parts.{with_part}
use Rattle.spv_values.specs.Places.{IsRowAt}
use Rattle.spv_mem.specs.Targets.{elements_in}
use Rattle.spv_mem.proofs.ElementLemmas.{elements_stay, row_for}
use Rattle.spv_mem.proofs.variables.Variable.exchange.Goals as goal

pub exchange-requires : goal.exchange-requires
exchange-requires c =
    let at : IsRowAt c.args.self.now c.args.path.now c.in-Some.place.start c.in-Some.place.len = search rules in
    rw (c.self.view_is) (row_for c.args.types.now c.args.ty c.args.self.now c.args.path.now c.args.other.now c.in-Some.place.start c.in-Some.place.len at c.requires.fits c.requires.may)

pub invariant_of-self : goal.invariant_of-self
invariant_of-self c =
    let at : IsRowAt c.args.self.now c.args.path.now c.in-Some.place.start c.in-Some.place.len = search rules in
    let kept : elements_in (with_part c.args.self.now c.args.path.now c.args.other.now) ≡ elements_in c.args.self.now =
    elements_stay c.args.types.now c.args.ty c.args.self.now c.args.path.now c.args.other.now c.in-Some.place.start c.in-Some.place.len at c.requires.fits c.requires.may in
    let was : c.self.inside.elements ≡ elements_in c.args.self.now = c.self.invariant ∙ ap elements_in c.self.view_is in
    let after : c.exchange.new.self ≡ with_part c.args.self.now c.args.path.now c.args.other.now = let e = c.exchange.ensures.after in let v = c.self.view_is in cc in
    was ∙ sym kept ∙ ap elements_in (sym after)
