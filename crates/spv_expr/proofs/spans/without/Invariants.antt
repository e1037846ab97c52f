use Rattle.std.proofs.Common.{◌≡◌, ◌&&◌, ℕ, take}
use Rattle.std.specs.Prelude.{not}
use Rattle.spv_expr.specs.Kept.{is_in, is_in_any}
use Rattle.spv_expr.proofs.spans.without.Given as goal

abbrev pub invariant-loop-span : goal.invariant-loop-span
invariant-loop-span l = (j : ℕ) → is_in_any j l.spans.items ≡ (is_in_any j (take l.span-index l.gaps) && not (is_in j l.range))
