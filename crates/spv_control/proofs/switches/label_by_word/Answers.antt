use Rattle.std.proofs.Common.{◌∙◌, ap}
use Rattle.spv_cfg.specs.Branches.{at_width}
use Rattle.spv_control.proofs.SwitchLemmas.{word_more, word_none}
use Rattle.spv_control.proofs.switches.label_by_word.Goals as goal

pub cases-preserved : goal.cases-preserved
cases-preserved c =
    word_more c.args.width c.args.number c.cases.rest.now c.literal-item.result c.word.result c.at_width.result _ c.in-len2-up.len_at_least c.literal-item.is c.word.ensures
    (c.at_width.ensures ∙ ap (at_width c.args.width) c.from.ensures) c.if-at_width-number.false c.cases.invariant

pub returns : goal.returns
returns c = word_none c.args.width c.args.number c.cases.rest.now c.in_default.len_below ∙ c.cases.invariant.1
