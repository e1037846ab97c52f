use Rattle.std.proofs.Common.{◌≡◌, ◌∙◌, arith}
use Rattle.spv_make.specs.Inputs.{words_for, module_for}
use Rattle.spv_make.proofs.WordLemmas.{length_is, bytes_then}
use Rattle.spv_make.proofs.making.module_for.Goals as goal

pub bytes_of-requires : goal.bytes_of-requires
bytes_of-requires c =
    let words : c.as_slice.result.now ≡ words_for c.args.n = c.as_slice.ensures ∙ c.in_ok-words.ensures in
    rw words (omega (arith, length_is c.args.n))

pub returns-clause-bytes : goal.returns-clause-bytes
unfolding module_for
returns-clause-bytes c =
    let words : c.as_slice.result.now ≡ words_for c.args.n = c.as_slice.ensures ∙ c.in_ok-words.ensures in
    rw (← words) c.bytes_of.ensures

pub returns-clause-words : goal.returns-clause-words
returns-clause-words c =
    let words : c.as_slice.result.now ≡ words_for c.args.n = c.as_slice.ensures ∙ c.in_ok-words.ensures in
    bytes_then c.args.n c.bytes_of.result (omega arith) (rw words at c.bytes_of.ensures)
