use Rattle.std.proofs.Common.{◌++◌, ◌∙◌, drop, sym}
use Rattle.std.proofs.lemmas.Bool.{ltb-true}
use Rattle.spv_source.proofs.WalkLemmas.{past_same}
use Rattle.spv_source.proofs.walks.Walk.read.Goals as goal

pub returns-then-is_past : goal.returns-then-is_past
returns-then-is_past c = λ left.
    past_same c.loop-byte.self left (drop c.loop-byte.byte-index c.args.bytes.now ++ left) (ltb-true _ _ (sym c.if-is_past.ensures)) ∙ c.loop-byte.invariant left
