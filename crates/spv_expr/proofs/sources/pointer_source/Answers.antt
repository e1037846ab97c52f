use Rattle.std.proofs.Common.{sym}
use Rattle.spv_expr.proofs.SourceLemmas.{pointer_same}
use Rattle.spv_expr.proofs.sources.pointer_source.Goals as goal

pub returns-then-are_plain : goal.returns-then-are_plain
returns-then-are_plain c = λ e is inv m n same.
    pointer_same c.args.tables.now c.args.debug.now e c.args.pointer.now c.in-Some.ids.now is c.in-Some.ensures (sym c.if-are_plain.ensures) inv m n same
