use Rattle.std.proofs.lemmas.Option.{IfSome_then}
use Rattle.spv_expr.proofs.SizeLemmas.{row_sized}
use Rattle.spv_expr.proofs.sizes.row_size.Goals as goal

pub returns : goal.returns
returns c = IfSome_then c.times.result c.times.ensures (λ all same. row_sized c.args.types.now c.args.ty c.args.count c.in_ok-size_of.field-0 all c.in_ok-size_of.ensures same.0 same.1)
