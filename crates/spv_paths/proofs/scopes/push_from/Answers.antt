use Rattle.std.proofs.Common.{◌∙◌, length}
use Rattle.spv_paths.specs.Kept.{ids_under}
use Rattle.spv_paths.proofs.ScopeLemmas.{listed, listed_all}
use Rattle.spv_paths.proofs.scopes.push_from.Goals as goal

pub returns-in_default : goal.returns-in_default
returns-in_default c =
    let t = c.args.tables.now in
    c.from_vec.ensures
    ∙ listed_all t (ids_under c.args.locals.now) (length t.insts) c.loop-n.n c.loop-n.at (rw c.insts-n-end.ensures at c.loop-n-test.true) c.loop-n.ids.items _ c.in_default.ensures c.loop-n.invariant

pub loop-n-preserved : goal.loop-n-preserved
loop-n-preserved c =
    let t = c.args.tables.now in
    rw (c.parent_of-at.ensures, c.in_ok-extend_from_slice.ensures.items, c.ids_of.ensures)
    (listed t (ids_under c.args.locals.now) (length t.insts) c.loop-n.n c.loop-n.at (rw c.insts-n-end.ensures at c.loop-n-test.true) c.in-Some.debug.now c.loop-n.ids.items _ c.in-Some.ensures c.loop-n.invariant)
