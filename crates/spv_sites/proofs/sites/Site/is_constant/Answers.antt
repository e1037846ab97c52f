use Rattle.std.proofs.Common.{◌≡◌, ◌∙◌, Some, ap, sym}
use Rattle.spv_index.specs.Operands.{id_operand}
use Rattle.spv_sites.specs.Sites.{Site}
use Rattle.spv_sites.proofs.ValueLemmas.{constant_there}
use Rattle.spv_sites.proofs.sites.Site.is_constant.Goals as goal

pub returns-in-Some : goal.returns-in-Some
returns-in-Some c =
    let named : id_operand c.args.self.now.inst c.args.n ≡ Some c.in-Some.id = ap (λ (x : Site). id_operand x.inst c.args.n) (sym c.self.view_is) ∙ sym c.id_operand.ensures ∙ c.in-Some.is in
    λ yes. constant_there c.args.self.now c.accepted-accepted.result.now c.args.n c.in-Some.id c.constant.result c.constants_are_meant.ensures c.accepted-accepted.ensures c.insts-insts.ensures.accepted named c.constant.ensures
    (sym c.is_some.ensures ∙ yes)
