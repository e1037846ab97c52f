use Rattle.std.proofs.Common.{◌≡◌, ◌∙◌, Some, ap, subst, sym}
use Rattle.spv_valid.specs.Acceptance.{Accepted}
use Rattle.spv_operands.specs.Values.{pointer_to, value_of}
use Rattle.spv_state.specs.Sources.{IsName, name_of}
use Rattle.spv_state.specs.State.{depth_of}
use Rattle.spv_sites.specs.Sites.{Site, accepted, values}
use Rattle.spv_sites.proofs.SourceLemmas.{name_lies, named_value}
use Rattle.spv_sites.proofs.OperandLemmas.{operand_shape}
use Rattle.spv_sites.proofs.sites.Site.variable.Goals as goal

pub root-requires : goal.root-requires
root-requires c =
    let x = c.args.self.now in
    subst (λ (a : Accepted). IsName a c.self.inside.frame.now.plan.function c.args.name.now) (sym c.accepted-accepted.ensures)
    (subst (λ (y : Site). IsName (accepted x) y.frame.plan.function c.args.name.now) (sym c.self.view_is) (name_lies (accepted x) x.frame.plan.function x.inst c.args.n c.args.name.now c.requires))

pub returns-clause-value : goal.returns-clause-value
returns-clause-value c =
    let x = c.args.self.now in
    named_value x c.args.n c.args.name.now (pointer_to c.root.result) c.requires
    (subst (λ (y : Site). value_of (accepted x) y.frame (depth_of y.state y.inv) (name_of c.args.name.now) ≡ Some (pointer_to c.root.result)) c.self.view_is
    (ap (λ depth. value_of (accepted x) c.self.inside.frame.now depth (name_of c.args.name.now)) (sym c.self.invariant.0)
    ∙ subst (λ (a : Accepted). value_of a c.self.inside.frame.now c.self.inside.depth (name_of c.args.name.now) ≡ Some (pointer_to c.root.result)) c.accepted-accepted.ensures c.root.ensures))

pub returns-clause-shape : goal.returns-clause-shape
returns-clause-shape c =
    let x = c.args.self.now in
    let value : values x c.args.n ≡ Some (pointer_to c.root.result)
    = named_value x c.args.n c.args.name.now (pointer_to c.root.result) c.requires
    (subst (λ (y : Site). value_of (accepted x) y.frame (depth_of y.state y.inv) (name_of c.args.name.now) ≡ Some (pointer_to c.root.result)) c.self.view_is
    (ap (λ depth. value_of (accepted x) c.self.inside.frame.now depth (name_of c.args.name.now)) (sym c.self.invariant.0)
    ∙ subst (λ (a : Accepted). value_of a c.self.inside.frame.now c.self.inside.depth (name_of c.args.name.now) ≡ Some (pointer_to c.root.result)) c.accepted-accepted.ensures c.root.ensures)) in
    operand_shape c.operands_have_shapes.ensures.values c.operands_have_shapes.ensures.pointers x c.args.n (pointer_to c.root.result) c.accepted-accepted.result.now c.accepted-accepted.ensures c.insts-insts.ensures.accepted c.is_reached.ensures value
