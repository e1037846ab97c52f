use Rattle.std.proofs.Common.{◌≡◌, map, take}
use Rattle.std.specs.List.{range_with_len}
use Rattle.spv_alu.specs.Vectors.{bitcast_of}
use Rattle.spv_effects.proofs.bitcasts.bitcast_cells.Given as goal

abbrev pub invariant-loop-index : goal.invariant-loop-index
invariant-loop-index l = take l.index l.into ≡ map (bitcast_of l.a l.width) (range_with_len 0 l.index)
