use Rattle.std.proofs.Common.{◌≡◌, drop}
use Rattle.spv_parts.specs.Kept.{kept_part}
use Rattle.spv_parts.specs.Parts.{part_bits, product}
use Rattle.spv_paths.specs.Portions as spec
use Rattle.spv_paths.proofs.portions.whole_elements.Given as goal

abbrev pub invariant-loop-count : goal.invariant-loop-count
invariant-loop-count l = spec.whole_elements l.whole (product l.tables (drop l.count-index l.count-items)) ≡ spec.whole_elements l.bits (part_bits l.tables (kept_part l.part))
