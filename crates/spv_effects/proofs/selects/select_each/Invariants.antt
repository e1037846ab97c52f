use Rattle.std.proofs.Common.{◌≡◌, take}
use Rattle.spv_alu.specs.Select.{select_of}
use Rattle.spv_alu.specs.Lanes.{zip3}
use Rattle.spv_effects.proofs.selects.select_each.Given as goal

abbrev pub invariant-loop-i : goal.invariant-loop-i
invariant-loop-i l = take l.i l.into ≡ zip3 select_of (take l.i l.condition) (take l.i l.a) (take l.i l.b)
