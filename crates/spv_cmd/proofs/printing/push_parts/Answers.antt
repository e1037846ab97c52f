use Rattle.std.proofs.Common.{◌++◌, ap, ◌∙◌}
use Rattle.spv_cmd.specs.Paths.{parts_text}
use Rattle.spv_cmd.proofs.PathLemmas.{parts_more, parts_done}
use Rattle.spv_cmd.proofs.printing.push_parts.Goals as goal

pub loop-part-preserved : goal.loop-part-preserved
loop-part-preserved c =
    let items = c.as_slice-part-items.result.now in
    parts_more (c.args.text.now.items ++ parts_text items) c.loop-part.text.items c.push_part.new.text.items items c.loop-part.part-index c.part-item.result c.loop-part-test.true c.part-item.is c.loop-part.invariant c.in_ok-push_part.ensures

pub returns : goal.returns
returns c =
    let items = c.as_slice-part-items.result.now in
    parts_done (c.args.text.now.items ++ parts_text items) c.loop-part.text.items items c.loop-part.part-index c.loop-part-test.false c.loop-part.invariant
    ∙ ap (λ parts. c.args.text.now.items ++ parts_text parts) c.as_slice-part-items.ensures
