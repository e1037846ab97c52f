use Rattle.std.proofs.Math.Logic.{∥∥₁_map}
use Rattle.spv_valid.specs.Acceptance.{IsAccepted}
use Rattle.spv_valid.proofs.modules.Module.insts.Goals as goal

pub returns-clause-valid : goal.returns-clause-valid
returns-clause-valid c = rw (← c.self.view_is) (∥∥₁_map c.self.invariant (λ (h : IsAccepted _). c.accepted_modules_are_valid.ensures _ h))
