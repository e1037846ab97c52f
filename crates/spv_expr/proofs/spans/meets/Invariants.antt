use Rattle.std.proofs.Common.{◌≡◌, ◌&&◌, ℕ, false, take}
use Rattle.spv_expr.specs.Kept.{is_in, is_in_any}
use Rattle.spv_expr.proofs.spans.meets.Given as goal

abbrev pub invariant-loop-span : goal.invariant-loop-span
invariant-loop-span l = (j : ℕ) → (is_in_any j (take l.span-index l.gaps) && is_in j l.range) ≡ false
