use Rattle.std.proofs.Common.{◌≡◌, ℕ, ◌+◌, ◌<◌, get_or, true}
use Rattle.spv_types.specs.declared.spans.Span.{Span}
use Rattle.spv_types.specs.Layout.{ends_before}
use Rattle.spv_types.proofs.spans.each_ends_before_next.Given as goal

-- each span so far ends before the next one
abbrev pub invariant-loop-n : goal.invariant-loop-n
invariant-loop-n l = (k : ℕ) (d : Span) → k + 1 < l.n → ends_before (get_or l.spans k d) (get_or l.spans (k + 1) d) ≡ true
