use Rattle.std.proofs.lemmas.Option.{IfSome_then}
use Rattle.spv_expr.proofs.SizeLemmas.{array_size}
use Rattle.spv_expr.proofs.sizes.array_size.Goals as goal

pub returns : goal.returns
returns c = IfSome_then c.row_size.result c.row_size.ensures (λ size row. λ stride. array_size c.args.types.now c.args.element c.in_ok-length.field-0 c.args.length stride size c.in_ok-length.was row)
