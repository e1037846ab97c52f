use Rattle.std.proofs.Common.{◌≡◌, ◌++◌, drop}
use Rattle.std.specs.List.{flat_map}
use Rattle.spv_show.specs.Pointers.{index_text}
use Rattle.spv_show.proofs.pointers.push_indexes.Given as goal

abbrev pub invariant-loop-index : goal.invariant-loop-index
invariant-loop-index l = l.text.items ++ flat_map index_text (drop l.index-index l.indexes) ≡ l.fn.text.items ++ flat_map index_text l.indexes
