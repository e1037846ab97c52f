use Rattle.std.proofs.Common.{◌≡◌, ◌*◌, ◌^◌, ◌<◌, drop}
use Rattle.spv_base.specs.Saturation.{saturated}
use Rattle.spv_parts.specs.Parts.{product}
use Rattle.spv_parts.proofs.parts.times.Given as goal

abbrev pub invariant-loop-id : goal.invariant-loop-id
invariant-loop-id l = record {
  fits : l.bits < 2 ^ 64;
  same : saturated (l.bits * product l.tables (drop l.id-index l.counts)) ≡ saturated (l.base * product l.tables l.counts);
}
