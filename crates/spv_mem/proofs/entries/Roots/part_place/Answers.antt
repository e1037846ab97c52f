use Rattle.std.proofs.Common.{◌≡◌, ◌∙◌, ℕ, Some, get_or, ap, subst, sym}
use Rattle.spv_base.specs.Entries.{reads}
use Rattle.spv_base.specs.Variables.{Roots}
use Rattle.spv_base.specs.declared.values.Value.{Value}
use Rattle.spv_mem.specs.Roots.{IsAt}
use Rattle.spv_mem.proofs.RootLemmas.{fit_at, item_is}
use Rattle.spv_mem.proofs.SingleLemmas.{lies_in}
use Rattle.spv_mem.proofs.entries.Roots.part_place.Goals as goal

pub place-requires : goal.place-requires
place-requires c =
    let a : IsAt c.args.id c.in_ok-k.k c.args.self.now = c.in_ok-k.ensures in
    let here : c.index.result.now ≡ get_or c.args.self.now c.in_ok-k.k c.index.result.now = subst (λ (es : Roots). c.index.result.now ≡ get_or es c.in_ok-k.k c.index.result.now) c.self.view_is c.index.ensures in
    let same = item_is c.args.id c.args.self.now c.in_ok-k.k c.index.result.now c.index.result.now a here in
    fit_at c.args.types.now c.args.target.ty c.args.id c.args.self.now c.in_ok-k.k c.index.result.now.1 a (ap (λ (p : ℕ × Value). p.1) same) c.requires

pub returns : goal.returns
returns c =
    let a : IsAt c.args.id c.in_ok-k.k c.args.self.now = c.in_ok-k.ensures in
    let here : c.index.result.now ≡ get_or c.args.self.now c.in_ok-k.k c.index.result.now = subst (λ (es : Roots). c.index.result.now ≡ get_or es c.in_ok-k.k c.index.result.now) c.self.view_is c.index.ensures in
    let same = item_is c.args.id c.args.self.now c.in_ok-k.k c.index.result.now c.index.result.now a here in
    let is : reads c.args.id c.args.self.now ≡ Some c.index.result.now.1 = a.is ∙ ap (λ (p : ℕ × Value). Some p.1) (sym same) in
    lies_in c.args.id c.args.self.now c.args.path.now c.index.result.now.1 c.place.result is c.place.ensures
