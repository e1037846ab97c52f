use Rattle.std.proofs.Common.{List, Option, sym, subst, arith}
use Rattle.std.specs.Option.{IfSome}
use Rattle.spv_types.specs.declared.forms.Form.{Form}
use Rattle.spv_expr.specs.Sizes.{AreSizes, IsFormSize}
use Rattle.spv_expr.specs.declared.sizes.Stretch.{Stretch}
use Rattle.spv_expr.proofs.SizeLemmas.{sizes_more}
use Rattle.spv_expr.proofs.sizes.sizes_of.Goals as goal

pub loop-number-preserved : goal.loop-number-preserved
loop-number-preserved c =
    let ts = c.args.types.now in
    record {
      long = omega (arith, c.in_ok-push.ensures.len, c.loop-number.invariant.long, c.loop-number.sizes.ok.0, c.push.new.self.ok.0);
      sizes = subst (λ (sizes : List (Option Stretch)). AreSizes ts sizes) (sym c.in_ok-push.ensures.items)
          (sizes_more ts c.loop-number.sizes.items c.form_size-size.result c.loop-number.number c.loop-number.invariant.long
          (subst (λ (f : Form). IfSome c.form_size-size.result (λ s. IsFormSize ts f s)) c.form_at.ensures c.form_size-size.ensures)
          (c.loop-number.invariant.sizes));
    }
