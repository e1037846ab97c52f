-- Passed events, of which some are picked by their numbers. Clauses of private calls alone cite this.
use Rattle.std.specs.Prelude.{ℕ, ◌<◌, List, Option, Some, None, length, map, slice_index_or}
use Rattle.std.specs.Borrow.{Bor}
use Rattle.std.specs.List.{All}
use Rattle.spv_base.specs.declared.values.PassedEvent.{PassedEvent}

-- one that is never read
abbrev pub blank : PassedEvent
blank = record { word = 0; value = None }

abbrev pub picked : List PassedEvent → List ℕ → List PassedEvent
picked events ns = map (λ n. slice_index_or events n blank) ns

-- those with some numbers, or all
abbrev pub those : List PassedEvent → Option (Bor (List ℕ)) → List PassedEvent
those events None = events
those events (Some ns) = picked events ns.now

abbrev pub AreNumbers : List PassedEvent → Option (Bor (List ℕ)) → Type 0
AreNumbers events None = Unit {0}
AreNumbers events (Some ns) = All (λ n. n < length events) ns.now
