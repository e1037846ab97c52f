use Rattle.std.proofs.Common.{◌≡◌, ℕ, List, take}
use Rattle.spv_dbg.specs.Names.{number_from, number_under}
use Rattle.spv_dbg.specs.Sources.{has_name}
use Rattle.spv_dbg.proofs.names.numbers_by_name.Given as goal

abbrev pub invariant-loop-n : goal.invariant-loop-n
invariant-loop-n l = (file : List ℕ) → number_under l.names file ≡ number_from 0 (has_name l.strings file) (take l.n l.ids)
