use Rattle.std.proofs.Common.{◌≡◌, List, Option}
use Rattle.std.specs.Prelude.{filter}
use Rattle.std.specs.List.{range_with_len}
use Rattle.spv_base.specs.declared.happenings.Happening.{Happening}
use Rattle.spv_probe.specs.Kits.{Follows}
use Rattle.spv_search.specs.Told.{Test}
use Rattle.spv_hits.specs.Halts.{halts_at}
use Rattle.spv_hits.proofs.probes.all_halted.Given as goal

abbrev pub invariant-loop-place : goal.invariant-loop-place
invariant-loop-place g l = (tests : List (Option Test)) (events : List Happening)
    → Follows (λ b. (goal.Probe-dyn g (b.vtable, b.value)).tally b.value) (λ b. (goal.Probe-dyn g (b.vtable, b.value)).test b.value) tests events l.kit.boxes.items
    → l.numbers ≡ filter (halts_at l.halts tests events 0 l.told) (range_with_len 1 l.place)
