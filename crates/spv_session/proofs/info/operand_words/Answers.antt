use Rattle.std.proofs.Common.{◌∙◌, ◌+◌, ◌/◌, ℕ, length, sym, ap}
use Rattle.spv_base.specs.declared.instructions.Operand.{Operand}
use Rattle.spv_ops.specs.Encoding.{words_of_operand}
use Rattle.spv_session.proofs.InfoLemmas.{text_words}
use Rattle.spv_session.proofs.info.operand_words.Goals as goal

pub returns-in-Text : goal.returns-in-Text
returns-in-Text c =
    ap (λ (n : ℕ). n / 4 + 1) c.len.ensures
    ∙ sym (text_words c.in-Text.text)
    ∙ ap (λ (o : Operand). length (words_of_operand o)) (sym c.in-Text.is)
