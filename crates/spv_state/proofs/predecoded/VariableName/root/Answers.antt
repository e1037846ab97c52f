use Rattle.spv_state.proofs.SourceLemmas.{local_read, variable_read}
use Rattle.spv_state.proofs.predecoded.VariableName.root.Goals as goal

pub returns-in-Module : goal.returns-in-Module
returns-in-Module c = variable_read c.args.accepted.now c.args.frame.now c.args.depth c.args.self.now c.in-Module.id c.in-Module.root c.in-Module.is c.requires

pub returns-in-Local : goal.returns-in-Local
returns-in-Local c = local_read c.args.accepted.now c.args.frame.now c.args.depth c.args.self.now c.in-Local.id c.in-Local.is c.requires
