use Rattle.std.proofs.Common.{◌∙◌, Option, refl, subst, sym}
use Rattle.std.specs.Option.{IfSome}
use Rattle.spv_base.specs.declared.values.Value.{Value}
use Rattle.spv_initial.specs.Values.{Suits}
use Rattle.spv_initial.proofs.StartLemmas.{may_add, own_same}
use Rattle.spv_initial.proofs.values.Opening.add_own.Goals as goal

pub add_private-requires-clause-may : goal.add_private-requires-clause-may
add_private-requires-clause-may c =
    may_add c.args.self.now.accepted.now c.args.memory.now c.args.declared.now c.in-Some.variable c.insts-insts.ensures.valid
    (subst (λ (o : Option Value). IfSome o (Suits c.args.self.now.accepted.now.types c.args.declared.now)) c.in-Some.is c.in_ok-variable.ensures.suits) c.requires.holds c.requires.types c.requires.named

pub returns-in-None : goal.returns-in-None
returns-in-None c = own_same c.args.memory.now c.args.memory.now c.args.inv c.args.declared.now _ (sym c.in-None.is ∙ c.in_ok-variable.ensures.value) refl
