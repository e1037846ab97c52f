use Rattle.std.proofs.Common.{sym, ◌∙◌}
use Rattle.std.proofs.lemmas.Result.{err_from_is_err_and}
use Rattle.spv_words.proofs.WordLemmas.{words_of-wrong_size, words_of-shown}
use Rattle.spv_words.proofs.list.words.Goals as goal

pub returns-then-not-has_module_size : goal.returns-then-not-has_module_size
returns-then-not-has_module_size c = words_of-wrong_size c.args.bytes.now (sym c.if-not-has_module_size.ensures)

pub returns-in_err-with_header : goal.returns-in_err-with_header
returns-in_err-with_header c =
    let p = err_from_is_err_and c.from_residual-in_err-with_header.result c.from_residual-in_err-with_header.ensures.1 in
    let read = c.in_ok-items.ensures in
    let due = words_of-shown c.args.bytes.now c.in_ok-items.items.items c.read_u32-big.result (sym c.if-not-has_module_size.ensures) c.read_u32-big.ensures read.0 read.1 in
    rw (p.1, p.2) (due ∙ sym c.with_header.ensures ∙ c.in_err-with_header.was)

pub returns : goal.returns
returns c =
    let read = c.in_ok-items.ensures in
    let due = words_of-shown c.args.bytes.now c.in_ok-items.items.items c.read_u32-big.result (sym c.if-not-has_module_size.ensures) c.read_u32-big.ensures read.0 read.1 in
    due ∙ sym c.with_header.ensures ∙ c.in_ok-with_header.was
