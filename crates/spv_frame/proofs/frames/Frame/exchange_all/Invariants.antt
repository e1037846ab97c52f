use Rattle.spv_frame.proofs.ContentLemmas.{Going}
use Rattle.spv_frame.proofs.frames.Frame.exchange_all.Given as goal

abbrev pub invariant-loop-number : goal.invariant-loop-number
invariant-loop-number l = Going l.slots l.initial.others l.others l.initial.self l.self l.number
