use Rattle.std.proofs.Math.Logic.{∥∥₁_elim}
use Rattle.std.proofs.Props.{props}
use Rattle.spv_valid.proofs.AcceptedLemmas.{accepted_depth}
use Rattle.spv_valid.proofs.modules.Module.entry.Goals as goal

pub returns-clause-depth : goal.returns-clause-depth
returns-clause-depth c = rw (← c.self.view_is) (∥∥₁_elim c.self.invariant (hlevel props) (accepted_depth _))
