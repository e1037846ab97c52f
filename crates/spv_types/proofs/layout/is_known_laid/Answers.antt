use Rattle.std.proofs.Common.{length, sym}
use Rattle.spv_types.proofs.LayoutLemmas.{laid_known, laid_missing, laid_unknown}
use Rattle.spv_types.proofs.layout.is_known_laid.Goals as goal

pub returns-in-Some : goal.returns-in-Some
returns-in-Some c = laid_known c.args.types.now c.args.laid.now c.in-Some.n c.args.ty c.requires (sym c.in-Some.ensures) c.if-n-laid.true

pub returns-in_default : goal.returns-in_default
returns-in_default c = laid_missing c.args.types.now (length c.args.laid.now) c.in-Some.n c.args.ty (sym c.in-Some.ensures) c.if-n-laid.false

pub returns-in_default-2 : goal.returns-in_default-2
returns-in_default-2 c = laid_unknown c.args.types.now (length c.args.laid.now) c.args.ty (sym c.in_default.ensures)
