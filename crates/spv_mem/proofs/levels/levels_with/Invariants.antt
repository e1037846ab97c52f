use Rattle.std.proofs.Common.{◌≡◌, take}
use Rattle.spv_mem.proofs.levels.levels_with.Given as goal

abbrev pub invariant-loop-locals : goal.invariant-loop-locals
invariant-loop-locals l = l.levels ≡ record { list = take l.locals-index l.lists; room = l.room }
