use Rattle.std.proofs.Common.{arith, ap, sym, length}
use Rattle.spv_types.proofs.TypeLemmas.{number_lt, number_form, number_none}
use Rattle.spv_types.proofs.table.TypeTable.form.Goals as goal

pub returns-in_err-n : goal.returns-in_err-n
returns-in_err-n c = let e = number_none c.args.self.now c.args.id (sym c.in_err-n.ensures) in cc

pub index-requires : goal.index-requires
index-requires c = let e = number_lt c.args.self.now c.args.id c.in_ok-n.n (sym c.in_ok-n.ensures) in omega (arith, e, ap length c.self.view_is)

pub returns : goal.returns
returns c = let e = number_form c.args.self.now c.args.id c.in_ok-n.n c.index.result.now (sym c.in_ok-n.ensures) in cc
