use Rattle.std.proofs.Math.Logic.{∥∥₁_elim}
use Rattle.std.proofs.Props.{props}
use Rattle.std.specs.Coded.{codes}
use Rattle.spv_valid.specs.Acceptance.{IsAccepted}
use Rattle.spv_operands.proofs.ConstantLemmas.{constant_meant}
use Rattle.spv_operands.proofs.laws.constants_are_meant.Goals as goal

pub returns : goal.returns
returns c = λ a id r accepted h. ∥∥₁_elim accepted (hlevel (props, codes)) (λ (is : IsAccepted a). constant_meant a is (c.accepted_modules_are_valid.ensures a is) id r h)
