use Rattle.std.proofs.Common.{◌≡◌, ◌++◌, [], drop, map}
use Rattle.spv_state.specs.Events.{listed}
use Rattle.spv_state.proofs.EventLemmas.{carried}
use Rattle.spv_state.proofs.captures.entries_of.Given as goal

-- the entries so far, and those that the instructions left give
abbrev pub invariant-loop-n : goal.invariant-loop-n
invariant-loop-n l = map listed l.entries.items ++ carried l.index.insts l.passed.items (drop l.n l.stands) ≡ carried l.index.insts [] l.stands
