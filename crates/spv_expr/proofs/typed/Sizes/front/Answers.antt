use Rattle.std.proofs.Common.{◌∙◌, sym, subst, length, refl}
use Rattle.spv_expr.specs.Typing.{IsTypedRow, Typing}
use Rattle.spv_expr.proofs.TypedLemmas.{typed_front}
use Rattle.spv_expr.proofs.typed.Sizes.front.Goals as goal

pub returns-clause-front : goal.returns-clause-front
returns-clause-front c =
    let t : Typing = record { types = c.self.inside.types; targets = c.self.inside.targets.items } in
    typed_front t c.args.variable c.in-Some.ty (length c.args.cells.now) c.args.cells.now c.type_front.result
    (subst (λ (x : Typing). ∥ IsTypedRow x c.args.variable c.args.cells.now ∥₁) (sym c.self.view_is) c.requires)
    (sym (c.self.invariant.by_ids c.args.variable) ∙ sym c.in-Some.ensures) refl c.type_front.ensures.leaves c.type_front.ensures.front
