use Rattle.std.proofs.Common.{◌∙◌, Some, ap}
use Rattle.spv_scopes.proofs.files.Files.number.Goals as goal

pub returns-clause-number : goal.returns-clause-number
returns-clause-number c = c.in_ok-number.ensures.number c.args.tables.now c.requires ∙ ap Some c.string_in.ensures
