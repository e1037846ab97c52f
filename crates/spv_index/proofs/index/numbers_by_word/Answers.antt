use Rattle.spv_index.proofs.IndexLemmas.{words_by}
use Rattle.spv_index.proofs.index.numbers_by_word.Goals as goal

pub returns : goal.returns
returns c = words_by _ _ c.requires.words (rw (← c.in_ok-words.ensures, ← c.as_slice.ensures.value) c.in_ok-numbers.ensures)
