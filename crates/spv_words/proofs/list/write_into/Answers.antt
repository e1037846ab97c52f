use Rattle.std.proofs.Common.{arith}
use Rattle.spv_words.proofs.WordLemmas.{words_of-big_bytes, words_of-little_bytes}
use Rattle.spv_words.proofs.list.write_into.Goals as goal

pub returns-then-big : goal.returns-then-big
returns-then-big c =
    rw (c.if-big.true, c.write_u32_into.ensures) (words_of-big_bytes c.args.items.now c.requires.header (λ k. omega (arith, c.type_inv.items k)))

pub returns-else-big : goal.returns-else-big
returns-else-big c =
    rw (c.if-big.false, c.write_u32_into-else-big.ensures) (words_of-little_bytes c.args.items.now c.requires.header (λ k. omega (arith, c.type_inv.items k)))
