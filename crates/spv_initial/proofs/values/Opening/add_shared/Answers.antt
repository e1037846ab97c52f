use Rattle.std.proofs.Common.{Option, subst}
use Rattle.std.specs.Option.{IfSome}
use Rattle.spv_base.specs.declared.values.Value.{Value}
use Rattle.spv_initial.specs.Values.{Suits}
use Rattle.spv_initial.proofs.StartLemmas.{may_add}
use Rattle.spv_initial.proofs.values.Opening.add_shared.Goals as goal

pub add_shared-requires-clause-may : goal.add_shared-requires-clause-may
add_shared-requires-clause-may c =
    may_add c.args.self.now.accepted.now c.args.memory.now c.args.declared.now c.in-Some.variable c.insts-insts.ensures.valid
    (subst (λ (o : Option Value). IfSome o (Suits c.args.self.now.accepted.now.types c.args.declared.now)) c.in-Some.is c.in_ok-variable.ensures.suits) c.requires.holds c.requires.types c.requires.named
