use Rattle.std.proofs.Common.{◌∙◌, ap, find, length}
use Rattle.spv_parts.specs.Composites.{is_named}
use Rattle.spv_paths.specs.Kept.{ids_under}
use Rattle.spv_paths.proofs.ScopeLemmas.{found_here, found_later}
use Rattle.spv_paths.proofs.scopes.named_from.Goals as goal

pub returns-in-Some-named_among : goal.returns-in-Some-named_among
returns-in-Some-named_among c =
    let t = c.args.tables.now in
    found_here t (ids_under c.args.locals.now) (length t.insts) c.loop-n.n c.loop-n.at (rw c.insts-n-end.ensures at c.loop-n-test.true) (is_named t c.args.name.now) c.in-Some.debug.now c.in-Some.ensures _ c.loop-n.invariant
    c.in-Some-named_among.id (c.in-Some-named_among.ensures ∙ ap (find (is_named t c.args.name.now)) c.ids_of.ensures)

pub loop-n-preserved : goal.loop-n-preserved
loop-n-preserved c =
    let t = c.args.tables.now in
    rw c.parent_of-at.ensures
    (found_later t (ids_under c.args.locals.now) (length t.insts) c.loop-n.n c.loop-n.at (rw c.insts-n-end.ensures at c.loop-n-test.true) (is_named t c.args.name.now) c.in-Some.debug.now c.in-Some.ensures _ c.loop-n.invariant
    (c.in_default-named_among.ensures ∙ ap (find (is_named t c.args.name.now)) c.ids_of.ensures))
