use Rattle.std.proofs.Common.{◌∙◌, ◌==◌, ℕ, Option, Some, None, sym, ap, add-one, take, get_or}
use Rattle.std.specs.Prelude.{if◌then◌else◌}
use Rattle.std.specs.Option.{option_or}
use Rattle.spv_base.specs.Entries.{reads}
use Rattle.spv_expr.proofs.TypedLemmas.{reads_more}
use Rattle.spv_expr.proofs.typed.types_by_ids.Goals as goal

pub loop-target-preserved : goal.loop-target-preserved
loop-target-preserved c = λ q.
    let k = c.loop-target.target-index in
    let list = c.args.targets.now in
    c.in_ok-put.ensures.ok q
    ∙ ap (λ (o : Option ℕ). option_or o (if (get_or list k (0, 0)).0 == q then Some (get_or list k (0, 0)).1 else None)) (c.loop-target.invariant q)
    ∙ sym (reads_more list k (0, 0) q c.loop-target-test.true) ∙ ap (λ (n : ℕ). reads q (take n list)) (sym (add-one k))
