use Rattle.std.proofs.Common.{◌≡◌, take}
use Rattle.std.specs.Simd.Lanes.{zip2}
use Rattle.spv_alu.specs.Select.{select_of}
use Rattle.spv_effects.proofs.selects.select_all.Given as goal

abbrev pub invariant-loop-i : goal.invariant-loop-i
invariant-loop-i l = take l.i l.into ≡ zip2 (select_of l.condition) (take l.i l.a) (take l.i l.b)
