use Rattle.std.proofs.Common.{◌≡◌, fold, take}
use Rattle.std.specs.List.{filter_map}
use Rattle.spv_session.specs.Texts.{shown_value, with_shown}
use Rattle.spv_session.proofs.registers.show_values.Given as goal

abbrev pub invariant-loop-number : goal.invariant-loop-number
invariant-loop-number l = l.shown.entries ≡ fold with_shown l.fn.shown.entries (filter_map (shown_value l.m.accepted) (take l.number l.frame.values))
