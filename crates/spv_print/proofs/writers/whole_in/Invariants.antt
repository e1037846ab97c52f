use Rattle.std.proofs.Common.{◌≡◌, ◌/◌, ◌*◌, take}
use Rattle.spv_parts.specs.Parts.{product, type_bits}
use Rattle.spv_print.proofs.writers.whole_in.Given as goal

abbrev pub invariant-loop-count : goal.invariant-loop-count
invariant-loop-count l = l.whole ≡ l.bits / (type_bits l.tables l.element.base * product l.tables (take l.count-index l.element.counts.now))
