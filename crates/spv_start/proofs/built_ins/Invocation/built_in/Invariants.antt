use Rattle.spv_start.specs.BuiltIns.{three_words, word}
use Rattle.spv_start.proofs.built_ins.Invocation.built_in.Given as goal

abbrev pub ghost-row_of_word : goal.ghost-row_of_word
ghost-row_of_word a = word a.n

abbrev pub ghost-row_of_three : goal.ghost-row_of_three
ghost-row_of_three a = three_words a.numbers
