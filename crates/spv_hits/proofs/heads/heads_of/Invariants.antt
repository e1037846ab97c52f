use Rattle.std.proofs.Common.{◌≡◌, ℕ, false, take}
use Rattle.std.specs.Prelude.{slice_index_or}
use Rattle.std.specs.List.{list_any}
use Rattle.spv_stops.specs.Breaks.{has_head}
use Rattle.spv_hits.proofs.heads.heads_of.Given as goal

abbrev pub invariant-loop-stop : goal.invariant-loop-stop
invariant-loop-stop l = (pc : ℕ) → slice_index_or l.marks.items pc false ≡ list_any (has_head pc) (take l.stop-index l.breaks)
