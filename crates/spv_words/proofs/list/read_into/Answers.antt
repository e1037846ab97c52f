use Rattle.std.proofs.Common.{arith}
use Rattle.spv_words.proofs.WordLemmas.{group_words-big, group_words-little}
use Rattle.spv_words.proofs.list.read_into.Goals as goal

pub returns-then-big : goal.returns-then-big
returns-then-big c =
    rw c.if-big.true (group_words-big c.read_u32_into.new.dst c.args.bytes.now (omega (arith, c.requires, c.read_u32_into.auto.dst)) c.read_u32_into.ensures)

pub returns-else-big : goal.returns-else-big
returns-else-big c =
    rw c.if-big.false (group_words-little c.read_u32_into-else-big.new.dst c.args.bytes.now (omega (arith, c.requires, c.read_u32_into-else-big.auto.dst)) c.read_u32_into-else-big.ensures)
