use Rattle.std.proofs.Common.{◌≡◌, map, take}
use Rattle.spv_state.specs.Events.{captured}
use Rattle.spv_state.proofs.events.due.Given as goal

-- those of the first instructions
abbrev pub invariant-loop-capture : goal.invariant-loop-capture
invariant-loop-capture l = l.events.items ≡ map (captured l.m.accepted l.frame l.depth) (take l.capture-index l.captures)
