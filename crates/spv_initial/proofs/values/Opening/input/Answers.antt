use Rattle.std.proofs.Common.{◌≡◌, ◌∙◌, Some, ap, subst, sym, true}
use Rattle.std.proofs.Math.Logic.{∥∥₁_map}
use Rattle.spv_types.specs.Laws.{AreSound}
use Rattle.spv_types.specs.Rules.{is_input}
use Rattle.spv_types.specs.Types.{Types}
use Rattle.spv_initial.proofs.BuiltInLemmas.{built_in_elements, built_in_shape}
use Rattle.spv_initial.proofs.values.Opening.input.Goals as goal

pub new-requires : goal.new-requires
new-requires c = built_in_elements c.invocation.result c.in-Some.kind c.in-Some-2.row (sym c.in_ok-row.ensures ∙ c.in-Some-2.is)

pub returns-in-Some-2-clause-suits : goal.returns-in-Some-2-clause-suits
returns-in-Some-2-clause-suits c = λ sound holds.
    ∥∥₁_map sound (λ (s : AreSound c.args.self.now.accepted.now.types).
    built_in_shape c.args.self.now.accepted.now.types c.invocation.result c.in-Some.kind c.args.declared.now.target c.new.result s c.invocation.ensures.narrow c.invocation.ensures.x c.invocation.ensures.y
    (subst (λ (ts : Types). is_input ts (Some c.in-Some.kind) c.args.declared.now.target ≡ true) c.types.ensures (sym c.if-not-is_input.ensures))
    (sym c.in_ok-row.ensures ∙ c.in-Some-2.is ∙ ap Some (sym c.new.ensures)))
