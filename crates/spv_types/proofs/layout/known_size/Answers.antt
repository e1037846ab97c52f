use Rattle.std.proofs.Common.{length, sym}
use Rattle.spv_types.proofs.LayoutLemmas.{size_known, size_missing, size_unknown}
use Rattle.spv_types.proofs.layout.known_size.Goals as goal

pub returns-in-Some : goal.returns-in-Some
returns-in-Some c = size_known c.args.types.now c.args.sizes.now c.in-Some.n c.args.ty c.requires (sym c.in-Some.ensures) c.if-n-sizes.true

pub returns-in_default : goal.returns-in_default
returns-in_default c = size_missing c.args.types.now (length c.args.sizes.now) c.in-Some.n c.args.ty (sym c.in-Some.ensures) c.if-n-sizes.false

pub returns-in_default-2 : goal.returns-in_default-2
returns-in_default-2 c = size_unknown c.args.types.now (length c.args.sizes.now) c.args.ty (sym c.in_default.ensures)
