use Rattle.std.specs.Vec.Iter.{into_iter_items}
use Rattle.spv_machine.proofs.PassedLemmas.{Appending}
use Rattle.spv_machine.proofs.passing.append_all.Given as goal

-- those so far are appended, with an entry for each
abbrev pub invariant-loop-event : goal.invariant-loop-event
invariant-loop-event l = Appending l.inv l.fn.events.items (into_iter_items l.event-iterator) l.fn.recorded l.recorded
