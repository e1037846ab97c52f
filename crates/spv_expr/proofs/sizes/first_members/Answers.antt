use Rattle.std.proofs.Common.{ℕ, sym, subst, add-one}
use Rattle.spv_expr.specs.Sizes.{AreSized}
use Rattle.spv_expr.proofs.SizeLemmas.{one_sized}
use Rattle.spv_expr.proofs.sizes.first_members.Goals as goal

pub loop-k-preserved : goal.loop-k-preserved
loop-k-preserved c =
    let more = c.in-Some.ensures in
    record {
      leaves = more.leaves_fit;
      bits = more.bits_fit;
      sized = subst (λ (k : ℕ). AreSized c.args.types.now c.args.members.now k c.in-Some.more) (sym (add-one c.loop-k.k))
          (one_sized c.args.types.now c.args.members.now c.loop-k.k _ c.loop-k.total c.args.room c.in-Some.more c.loop-k-test.true more c.loop-k.invariant.sized);
    }
