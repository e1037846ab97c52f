use Rattle.std.proofs.Common.{◌++◌, ◌∙◌, drop, sym}
use Rattle.std.specs.List.{concat}
use Rattle.std.proofs.lemmas.Bool.{ltb-true}
use Rattle.spv_source.proofs.WalkLemmas.{past_same}
use Rattle.spv_source.proofs.walks.Walk.pass_all.Goals as goal

pub returns-then-is_past : goal.returns-then-is_past
returns-then-is_past c = λ left.
    past_same c.loop-n.self left (concat (drop c.loop-n.n c.args.text.now) ++ left) (ltb-true _ _ (sym c.if-is_past.ensures)) ∙ c.loop-n.invariant left
