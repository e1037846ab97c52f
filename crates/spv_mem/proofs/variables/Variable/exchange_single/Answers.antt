use Rattle.std.proofs.Common.{◌≡◌, ◌∙◌, Some, ap, subst, sym}
use Rattle.spv_base.specs.Parts.{part_at, with_part}
use Rattle.spv_base.specs.declared.values.Value.{Value}
use Rattle.spv_values.specs.Places.{IsRowAt}
use Rattle.spv_mem.specs.Targets.{elements_in}
use Rattle.spv_mem.proofs.SingleLemmas.{exchanged, leaf_keeps, leaf_row}
use Rattle.spv_mem.proofs.variables.Variable.exchange_single.Goals as goal

pub exchange_single-requires : goal.exchange_single-requires
exchange_single-requires c =
    subst (λ (x : Value). IsRowAt x c.args.path.now.value c.args.leaf 1) (sym c.self.view_is) (leaf_row c.args.leaf c.args.path.now.value c.args.other.now c.args.self.now c.requires)

pub invariant_of-self : goal.invariant_of-self
invariant_of-self c =
    let kept : elements_in (with_part c.args.self.now c.args.path.now.value c.args.other.now) ≡ elements_in c.args.self.now = leaf_keeps c.args.leaf c.args.path.now.value c.args.other.now c.args.self.now c.requires in
    let after : c.exchange_single.new.self ≡ with_part c.args.self.now c.args.path.now.value c.args.other.now =
    c.exchange_single.ensures.after ∙ ap (λ (x : Value). with_part x c.args.path.now.value c.args.other.now) c.self.view_is in
    c.self.invariant ∙ ap elements_in c.self.view_is ∙ sym kept ∙ ap elements_in (sym after)

pub returns : goal.returns
returns c =
    let after : c.exchange_single.new.self ≡ with_part c.args.self.now c.args.path.now.value c.args.other.now =
    c.exchange_single.ensures.after ∙ ap (λ (x : Value). with_part x c.args.path.now.value c.args.other.now) c.self.view_is in
    exchanged c.args.self.now c.exchange_single.new.self c.args.other.now c.exchange_single.new.other c.args.path.now.value
    (subst (λ (x : Value). part_at x c.args.path.now.value ≡ Some c.exchange_single.new.other) c.self.view_is c.exchange_single.ensures.handed) after
