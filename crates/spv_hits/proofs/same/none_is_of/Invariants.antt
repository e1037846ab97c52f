use Rattle.std.proofs.Common.{◌≡◌, false, take}
use Rattle.std.specs.List.{All}
use Rattle.spv_expr.specs.Groups.{is_event_of}
use Rattle.spv_hits.proofs.same.none_is_of.Given as goal

abbrev pub invariant-loop-event : goal.invariant-loop-event
invariant-loop-event l = All (λ e. is_event_of l.tables l.variable e.word ≡ false) (take l.event-index l.events)
