use Rattle.std.proofs.Common.{◌≡◌, ◌++◌, drop}
use Rattle.spv_cfg.specs.Calls.{functions_of}
use Rattle.spv_cfg.proofs.calls.functions_of.Given as goal

abbrev pub invariant-loop-inst : goal.invariant-loop-inst
invariant-loop-inst l = l.functions.items ++ functions_of (drop l.inst-index l.insts) ≡ functions_of l.insts
