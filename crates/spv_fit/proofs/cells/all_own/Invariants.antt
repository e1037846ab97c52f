use Rattle.std.proofs.Common.{◌≡◌, ◌<◌, ◌^◌, ◌+◌, drop}
use Rattle.spv_base.specs.Saturation.{saturated}
use Rattle.spv_fit.specs.Cells.{all_own}
use Rattle.spv_fit.proofs.cells.all_own.Given as goal

-- the leaves so far and those to come
abbrev pub invariant-loop-inst : goal.invariant-loop-inst
invariant-loop-inst l = record {
  fits : l.cells < 2 ^ 64;
  sum : saturated (l.cells + all_own l.types (drop l.inst-index l.insts)) ≡ saturated (all_own l.types l.insts);
}
