use Rattle.std.proofs.Common.{◌≡◌}
use Rattle.spv_journal.specs.Events.{fitting, size}
use Rattle.spv_journal.proofs.rings.Ring.make_room.Given as goal

abbrev pub invariant-loop-self : goal.invariant-loop-self
invariant-loop-self l = record {
  events : fitting l.room l.self.events ≡ fitting l.fn.room l.fn.self.events;
  limit : l.self.limit ≡ l.fn.self.limit;
  room : l.room ≡ l.fn.room;
}

abbrev pub decreases-loop-self : goal.decreases-loop-self
decreases-loop-self l = size l.self.events
