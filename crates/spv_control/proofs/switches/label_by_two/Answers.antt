use Rattle.std.proofs.Common.{◌∙◌, ℕ, ◌+◌, ◌*◌, ◌^◌, ap}
use Rattle.spv_cfg.specs.Branches.{at_width}
use Rattle.spv_control.proofs.SwitchLemmas.{two_more, two_none}
use Rattle.spv_control.proofs.switches.label_by_two.Goals as goal

pub cases-preserved : goal.cases-preserved
cases-preserved c =
    two_more c.args.width c.args.number c.cases.rest.now c.low-item.result c.high-item.result c.word.result c.word-in-len3-up.result c.at_width.result _ c.in-len3-up.len_at_least c.low-item.is c.high-item.is c.word.ensures c.word-in-len3-up.ensures
    (c.at_width.ensures ∙ ap (λ (n : ℕ). at_width c.args.width (n + c.from-in-len3-up.result * 2 ^ 32)) c.from.ensures ∙ ap (λ (n : ℕ). at_width c.args.width (c.word.result + n * 2 ^ 32)) c.from-in-len3-up.ensures) c.if-at_width-number.false c.cases.invariant

pub returns : goal.returns
returns c = two_none c.args.width c.args.number c.cases.rest.now c.in_default.len_below ∙ c.cases.invariant.1
