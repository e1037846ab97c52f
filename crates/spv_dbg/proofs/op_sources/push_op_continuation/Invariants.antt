use Rattle.std.proofs.Common.{◌≡◌, ◌++◌, drop}
use Rattle.spv_dbg.specs.Sources.{op_continuation}
use Rattle.spv_dbg.proofs.op_sources.push_op_continuation.Given as goal

abbrev pub invariant-loop-inst : goal.invariant-loop-inst
invariant-loop-inst l = l.text.items ++ op_continuation (drop l.inst-index l.insts) ≡ l.initial.text.items ++ op_continuation l.insts
