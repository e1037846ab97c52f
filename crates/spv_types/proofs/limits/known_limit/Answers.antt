use Rattle.std.proofs.Common.{length, sym}
use Rattle.spv_types.proofs.LimitLemmas.{limit_known, limit_missing, limit_unknown}
use Rattle.spv_types.proofs.limits.known_limit.Goals as goal

pub returns-in-Some : goal.returns-in-Some
returns-in-Some c = limit_known c.args.types.now c.args.limits.now c.in-Some.n c.args.ty c.requires (sym c.in-Some.ensures) c.if-n-limits.true

pub returns-in_default : goal.returns-in_default
returns-in_default c = limit_missing c.args.types.now (length c.args.limits.now) c.in-Some.n c.args.ty (sym c.in-Some.ensures) c.if-n-limits.false

pub returns-in_default-2 : goal.returns-in_default-2
returns-in_default-2 c = limit_unknown c.args.types.now (length c.args.limits.now) c.args.ty (sym c.in_default.ensures)
