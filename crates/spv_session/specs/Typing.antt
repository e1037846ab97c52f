-- The types of a module, and of what its variables hold.
use Rattle.spv_expr.specs.Typing.{Typing}
use Rattle.spv_initial.specs.Start.{variables}
use Rattle.spv_initial.specs.Variables.{targets_of}
use Rattle.spv_valid.specs.Acceptance.{Accepted}

abbrev pub typing_in : Accepted → Typing
typing_in a = record { types = a.types; targets = targets_of (variables a) }
