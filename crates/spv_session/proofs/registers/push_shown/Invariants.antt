use Rattle.std.proofs.Common.{◌≡◌, ◌++◌}
use Rattle.std.specs.List.{flat_map}
use Rattle.spv_session.specs.Texts.{shown_line}
use Rattle.spv_session.proofs.registers.push_shown.Given as goal

abbrev pub invariant-loop-id : goal.invariant-loop-id
invariant-loop-id l = l.text.items ++ flat_map shown_line l.id-iterator ≡ l.fn.text.items ++ flat_map shown_line l.shown.entries
