use Rattle.std.proofs.Common.{◌≡◌, take}
use Rattle.spv_mem.specs.Chains.{extend}
use Rattle.spv_mem.proofs.chains.extended_path.Given as goal

abbrev pub invariant-loop-index : goal.invariant-loop-index
invariant-loop-index l = l.path ≡ extend l.initial.path (take l.index-index l.indexes)
