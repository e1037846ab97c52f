use Rattle.std.proofs.Common.{arith}
use Rattle.spv_state.proofs.whole.Whole.depth.Goals as goal

pub overflow_cast-result : goal.overflow_cast-result
overflow_cast-result c =
    omega (arith, c.stack.ensures.bounded.within, c.stack.ensures.bounded.narrow, c.depth.ensures, c.saturating_sub.ensures)
