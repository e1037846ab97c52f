use Rattle.std.proofs.Common.{◌≡◌, ℕ, IfSome, Some, subst, sym}
use Rattle.spv_valid.specs.Acceptance.{Accepted}
use Rattle.spv_operands.specs.Values.{value_of}
use Rattle.spv_state.specs.Below.spv_plans.specs.Registered.{IsOfFunction}
use Rattle.spv_state.specs.Sources.{IsSource, id_of}
use Rattle.spv_sites.specs.Sites.{IsSite, Site, accepted}
use Rattle.spv_sites.proofs.SourceLemmas.{read_shapes, read_values, source_lies}
use Rattle.spv_sites.proofs.OperandLemmas.{of_function}
use Rattle.spv_sites.proofs.sites.Site.read.Goals as goal

pub part-requires-clause-source : goal.part-requires-clause-source
part-requires-clause-source c =
    let x = c.args.self.now in
    subst (λ (a : Accepted). IsSource a c.self.inside.frame.now.plan.function c.args.source.now) (sym c.accepted-accepted.ensures)
    (subst (λ (y : Site). IsSource (accepted x) y.frame.plan.function c.args.source.now) (sym c.self.view_is) (source_lies (accepted x) x.frame.plan.function x.inst c.args.n c.args.source.now c.requires.lies))

pub part-requires-clause-frame : goal.part-requires-clause-frame
part-requires-clause-frame c =
    let site = subst (λ (x : Site). ∥ IsSite x ∥₁) c.self.view_is c.self.invariant.1 in
    subst (λ (a : Accepted). IsOfFunction a c.self.inside.frame.now.plan) (sym c.accepted-accepted.ensures)
    (subst (λ (x : Site). IsOfFunction (accepted c.args.self.now) x.frame.plan) (sym c.self.view_is) (of_function c.args.self.now site))

pub returns-clause-value : goal.returns-clause-value
returns-clause-value c =
    let x = c.args.self.now in
    read_values x c.args.n c.args.source.now c.part.result c.requires.lies
    (subst (λ (y : Site). IfSome c.part.result (λ v. (depth : ℕ) → value_of (accepted x) y.frame depth (id_of c.args.source.now) ≡ Some v)) c.self.view_is
    (subst (λ (a : Accepted). IfSome c.part.result (λ v. (depth : ℕ) → value_of a c.self.inside.frame.now depth (id_of c.args.source.now) ≡ Some v)) c.accepted-accepted.ensures c.part.ensures))

pub returns-clause-shape : goal.returns-clause-shape
returns-clause-shape c =
    let x = c.args.self.now in
    read_shapes x c.args.n c.operands_have_shapes.ensures.values c.operands_have_shapes.ensures.pointers c.accepted-accepted.result.now c.accepted-accepted.ensures c.insts-insts.ensures.accepted c.is_reached.ensures c.requires.data c.part.result
    (read_values x c.args.n c.args.source.now c.part.result c.requires.lies
    (subst (λ (y : Site). IfSome c.part.result (λ v. (depth : ℕ) → value_of (accepted x) y.frame depth (id_of c.args.source.now) ≡ Some v)) c.self.view_is
    (subst (λ (a : Accepted). IfSome c.part.result (λ v. (depth : ℕ) → value_of a c.self.inside.frame.now depth (id_of c.args.source.now) ≡ Some v)) c.accepted-accepted.ensures c.part.ensures)))
