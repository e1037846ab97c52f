use Rattle.std.proofs.Common.{◌≡◌, false, nat_eq, sym, arith}
use Rattle.spv_source.proofs.WalkLemmas.{unread}
use Rattle.spv_source.proofs.walks.Walk.read_byte.Goals as goal

pub returns-else-is_near : goal.returns-else-is_near
returns-else-is_near c = λ left.
    let other : nat_eq c.args.byte 10 ≡ false = grind arith in
    unread c.args.self.now c.args.byte left (sym c.if-is_near.ensures) other
