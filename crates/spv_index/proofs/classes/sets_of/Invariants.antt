use Rattle.std.proofs.Common.{◌≡◌, ◌++◌, drop}
use Rattle.spv_index.specs.Classes.{sets_of}
use Rattle.spv_index.proofs.classes.sets_of.Given as goal

abbrev pub invariant-loop-inst : goal.invariant-loop-inst
invariant-loop-inst l = l.sets.items ++ sets_of (drop l.inst-index l.insts) ≡ sets_of l.insts
