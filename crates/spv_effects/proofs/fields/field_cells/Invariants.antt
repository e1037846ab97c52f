use Rattle.std.proofs.Common.{◌≡◌, take}
use Rattle.std.specs.Simd.Lanes.{zip2}
use Rattle.spv_alu.specs.Fields.{field_lane}
use Rattle.spv_effects.proofs.fields.field_cells.Given as goal

abbrev pub invariant-loop-k : goal.invariant-loop-k
invariant-loop-k l = take l.k l.into ≡ zip2 (λ b i. field_lane l.operation b i l.offset l.count) (take l.k l.base) (take l.k l.insert)
