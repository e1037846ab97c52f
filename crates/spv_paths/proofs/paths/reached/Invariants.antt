use Rattle.std.proofs.Common.{◌≡◌, ◌<◌, ◌^◌, drop}
use Rattle.std.specs.Prelude.{option_map}
use Rattle.spv_paths.specs.Kept.{kept_portion, saturated_portion}
use Rattle.spv_paths.specs.Paths.{all_of, reached}
use Rattle.spv_paths.proofs.paths.reached.Given as goal

abbrev pub invariant-loop-part : goal.invariant-loop-part
invariant-loop-part l = record { fits : l.portion.start < 2 ^ 64; same : option_map saturated_portion (reached l.tables l.bits (kept_portion l.portion) (drop l.part-index l.parts)) ≡ option_map saturated_portion (reached l.tables l.bits (all_of l.tables l.variable) l.parts) }
