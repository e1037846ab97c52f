use Rattle.std.proofs.Common.{◌≡◌, ◌++◌, ℕ, List, drop}
use Rattle.spv_dbg.specs.Seen.{text_in}
use Rattle.spv_dbg.specs.Sources.{continuation}
use Rattle.spv_dbg.proofs.sources.push_continuation.Given as goal

abbrev pub invariant-loop-debug : goal.invariant-loop-debug
invariant-loop-debug l = (strings : List (ℕ × List ℕ)) → text_in strings l.pieces ++ continuation strings (drop l.debug-index l.insts) ≡ text_in strings l.initial.pieces ++ continuation strings l.insts
