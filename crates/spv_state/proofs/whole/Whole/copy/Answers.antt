use Rattle.std.proofs.Common.{◌∙◌, length, ap, arith, subst, sym}
use Rattle.spv_state.specs.Rooms.{AreBounded}
use Rattle.spv_state.proofs.whole.Whole.copy.Goals as goal

pub invariant_of-result : goal.invariant_of-result
invariant_of-result c =
    let same = c.in_ok-stacks_copied.ensures ∙ c.as_slice.ensures.value in
    let count = ap length same in
    let new = c.in_ok-stacks_copied.field-0.ok in
    let old = c.self.inside.stacks.ok in
    (omega (arith, count, new, old, c.self.invariant.0), subst AreBounded (sym same) c.self.invariant.1)
