use Rattle.std.proofs.Common.{◌≡◌, ◌++◌, map, take}
use Rattle.std.specs.List.{flat_map}
use Rattle.spv_ops.specs.Encoding.{encoding}
use Rattle.spv_make.specs.Rows.{inst_of}
use Rattle.spv_make.proofs.encoding.push_rows.Given as goal

abbrev pub invariant-loop-row : goal.invariant-loop-row
invariant-loop-row l = l.words ≡ l.fn.words ++ flat_map encoding (map (λ row. inst_of l.turns row.0 row.1 row.2 row.3.now) (take l.row-index l.rows))
