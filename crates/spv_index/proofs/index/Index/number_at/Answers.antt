use Rattle.std.proofs.Common.{◌∙◌, sym}
use Rattle.spv_index.specs.Definitions.{number_at, stands_at}
use Rattle.spv_index.proofs.IndexLemmas.{number_within, numbered_by}
use Rattle.spv_index.proofs.index.Index.number_at.Goals as goal

pub returns-in_err-get-clause-number : goal.returns-in_err-get-clause-number
unfolding number_at
returns-in_err-get-clause-number c =
    c.from_residual.ensures ∙ sym c.in_err-get.was ∙ numbered_by _ _ c.self.view_is (stands_at c.args.word) _
    (c.get.ensures ∙ c.self.invariant.words_are c.args.word)

pub returns-clause-number : goal.returns-clause-number
unfolding number_at
returns-clause-number c =
    sym c.in_ok-get.was ∙ numbered_by _ _ c.self.view_is (stands_at c.args.word) _
    (c.get.ensures ∙ c.self.invariant.words_are c.args.word)

pub returns-clause-within : goal.returns-clause-within
returns-clause-within c =
    number_within (stands_at c.args.word) _ _
    (sym c.in_ok-get.was ∙ numbered_by _ _ c.self.view_is (stands_at c.args.word) _
    (c.get.ensures ∙ c.self.invariant.words_are c.args.word))
