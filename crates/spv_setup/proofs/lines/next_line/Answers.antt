use Rattle.std.proofs.Common.{◌≡◌, Some, sym, ap, ◌∙◌}
use Rattle.std.specs.List.{position}
use Rattle.spv_setup.specs.Lines.{is_line_feed, without_return}
use Rattle.spv_setup.proofs.LineLemmas.{only_line, first_line}
use Rattle.spv_setup.proofs.lines.next_line.Goals as goal

pub returns-in-None : goal.returns-in-None
returns-in-None c = only_line c.args.text.now (sym c.in-None.is ∙ c.first_line_feed.ensures)

pub returns-in-Some : goal.returns-in-Some
returns-in-Some c =
    let end : Some c.in-Some.end ≡ position is_line_feed c.args.text.now = sym c.in-Some.is ∙ c.first_line_feed.ensures in
    let line = c.without_return.ensures ∙ ap without_return c.split_at.ensures.front in
    first_line c.args.text.now c.without_return.result.now c.split_at-in-Some.result.1.now c.split_at.result.1.now c.in-Some.end end line c.split_at.ensures.back c.split_at-in-Some.ensures.back
