use Rattle.std.proofs.Common.{arith, ap, sym, length}
use Rattle.spv_types.proofs.TypeLemmas.{number_lt, found_read}
use Rattle.spv_types.proofs.table.TypeTable.found.Goals as goal

pub index-requires : goal.index-requires
index-requires c = let e = number_lt c.args.self.now c.args.id c.in_ok-n.n (sym c.in_ok-n.ensures) in omega (arith, e, ap length c.self.view_is)

pub returns-then-n-limit : goal.returns-then-n-limit
returns-then-n-limit c = found_read _ c.args.self.now c.args.limit c.in_ok-n.n c.args.id c.index.result.now c.self.view_is (sym c.in_ok-n.ensures) c.if-n-limit.true c.index.ensures
