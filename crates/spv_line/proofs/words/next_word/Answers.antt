use Rattle.std.proofs.Common.{◌≡◌, Some, None, sym, ◌∙◌}
use Rattle.std.specs.List.{position}
use Rattle.spv_line.specs.Words.{is_space, is_other}
use Rattle.spv_line.proofs.WordsLemmas.{first_at_space, first_at_end}
use Rattle.spv_line.proofs.words.next_word.Goals as goal

pub returns-in-Some : goal.returns-in-Some
returns-in-Some c =
    let text = c.args.text.now in
    let left = c.split_at.result.1.now in
    let start : Some c.in_ok-start.start ≡ position is_other text = sym c.in_ok-start.was ∙ c.first_other.ensures in
    let end : Some c.in-Some.end ≡ position is_space left = sym c.in-Some.is ∙ c.first_space.ensures in
    first_at_space text left c.split_at-in-Some.result.0.now c.split_at-in-Some.result.1.now c.split_at-in-Some-2.result.1.now c.in_ok-start.start c.in-Some.end start c.split_at.ensures.back end c.split_at-in-Some.ensures.front c.split_at-in-Some.ensures.back c.split_at-in-Some-2.ensures.back

pub returns-in-None : goal.returns-in-None
returns-in-None c =
    let text = c.args.text.now in
    let left = c.split_at.result.1.now in
    let start : Some c.in_ok-start.start ≡ position is_other text = sym c.in_ok-start.was ∙ c.first_other.ensures in
    let end : None ≡ position is_space left = sym c.in-None.is ∙ c.first_space.ensures in
    first_at_end text left c.in_ok-start.start start c.split_at.ensures.back end
