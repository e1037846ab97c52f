use Rattle.std.proofs.Common.{◌≡◌, ◌++◌, ℕ, List, length, map}
use Rattle.spv_dbg.specs.Seen.{seen}
use Rattle.spv_dbg.specs.Sources.{debug_sources}
use Rattle.spv_dbg.proofs.sources.add_sources.Given as goal

abbrev pub invariant-loop-insts : goal.invariant-loop-insts
invariant-loop-insts l = (strings : List (ℕ × List ℕ)) → map (seen strings) l.sources.items ++ debug_sources strings l.insts ≡ map (seen strings) l.initial.sources.items ++ debug_sources strings l.initial.insts

abbrev pub decreases-loop-insts : goal.decreases-loop-insts
decreases-loop-insts l = length l.insts
