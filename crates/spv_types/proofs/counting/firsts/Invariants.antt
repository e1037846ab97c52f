use Rattle.std.proofs.Common.{◌≡◌, take}
use Rattle.std.specs.Option.{option_map}
use Rattle.spv_types.specs.Cells.{cells_among, members_cells}
use Rattle.spv_base.specs.Saturation.{saturated}
use Rattle.spv_types.specs.Counted.{HasFirsts}
use Rattle.spv_types.proofs.counting.firsts.Given as goal

-- the leaves before each member so far, and before the next one
abbrev pub invariant-loop-member : goal.invariant-loop-member
invariant-loop-member l = record {
  firsts : HasFirsts (cells_among l.types l.limit) l.members l.member-index l.firsts;
  before : l.before ≡ option_map saturated (members_cells (cells_among l.types l.limit) (take l.member-index l.members));
}
