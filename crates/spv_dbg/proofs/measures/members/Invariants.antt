use Rattle.std.proofs.Common.{◌≡◌, ◌^◌, ◌<◌, drop}
use Rattle.spv_dbg.specs.Saturation.{saturated_measure}
use Rattle.spv_dbg.specs.Marks.{known, members}
use Rattle.spv_dbg.proofs.MeasureLemmas.{with_rest}
use Rattle.spv_dbg.proofs.measures.members.Given as goal

abbrev pub invariant-loop-id : goal.invariant-loop-id
invariant-loop-id l = record {
  bits : l.all.bits < 2 ^ 64;
  nesting : l.all.nesting < 2 ^ 64;
  same : saturated_measure (with_rest l.all (members (known l.module l.marks) (drop l.id-index l.ids))) ≡ saturated_measure (members (known l.module l.marks) l.ids);
}
