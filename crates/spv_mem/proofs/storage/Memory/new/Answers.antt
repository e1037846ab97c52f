use Rattle.spv_mem.proofs.ChangeLemmas.{empty_keeps}
use Rattle.spv_mem.proofs.storage.Memory.new.Goals as goal

pub invariant_of-result : goal.invariant_of-result
invariant_of-result c =
    rw (c.in_ok-new.ensures, c.new-2.ensures, c.in_ok-no_roots.ensures, c.in_ok-no_levels.ensures) (empty_keeps c.args.types.value c.args.targets.now c.args.invocations c.args.depth c.requires)
