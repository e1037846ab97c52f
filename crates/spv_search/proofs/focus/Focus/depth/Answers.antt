use Rattle.spv_search.specs.Keys.{tables_in}
use Rattle.spv_search.proofs.FocusLemmas.{depth_at}
use Rattle.spv_search.proofs.focus.Focus.depth.Goals as goal

pub returns : goal.returns
returns c =
    let g = c.args.group.now.group in
    depth_at g c.args.self.now.inv c.args.self.now.lines.now c.stack_of.result.now.frames c.requires.lines c.stack_of.ensures c.shown_count.result (c.shown_count.ensures g.program.accepted (tables_in g))
