use Rattle.std.proofs.Common.{◌≡◌, ◌*◌, ◌^◌, ◌<◌, drop}
use Rattle.spv_base.specs.Saturation.{saturated}
use Rattle.spv_dbg.specs.Literals.{literal_of}
use Rattle.spv_dbg.specs.Marks.{product}
use Rattle.spv_dbg.proofs.measures.times.Given as goal

abbrev pub invariant-loop-id : goal.invariant-loop-id
invariant-loop-id l = record {
  fits : l.bits < 2 ^ 64;
  same : saturated (l.bits * product (literal_of l.module) (drop l.id-index l.counts)) ≡ saturated (l.base * product (literal_of l.module) l.counts);
}
