use Rattle.std.proofs.Common.{refl, ap, ◌∙◌, take, drop}
use Rattle.spv_text.proofs.FrontLemmas.{front_passes}
use Rattle.spv_line.specs.Numbers.{is_digit}
use Rattle.spv_text.proofs.numbers.digits_at.Goals as goal

pub returns-clause-digits : goal.returns-clause-digits
returns-clause-digits c =
    let text = c.args.text.now in
    (front_passes is_digit text c.split_at.result.0.now c.split_at.result.1.now c.digits_end.result refl c.digits_end.ensures (c.split_at.ensures.front ∙ ap (λ n. take n text) c.unwrap_or.ensures) (c.split_at.ensures.back ∙ ap (λ n. drop n text) c.unwrap_or.ensures)).0

pub returns-clause-rest : goal.returns-clause-rest
returns-clause-rest c =
    let text = c.args.text.now in
    (front_passes is_digit text c.split_at.result.0.now c.split_at.result.1.now c.digits_end.result refl c.digits_end.ensures (c.split_at.ensures.front ∙ ap (λ n. take n text) c.unwrap_or.ensures) (c.split_at.ensures.back ∙ ap (λ n. drop n text) c.unwrap_or.ensures)).1
