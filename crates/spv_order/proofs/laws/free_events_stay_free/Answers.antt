use Rattle.spv_order.proofs.ExchangeLemmas.{free_apart, free_arrives, free_exchanged}
use Rattle.spv_order.proofs.laws.free_events_stay_free.Goals as goal

pub returns : goal.returns
returns c = record { no_barrier = free_arrives; apart = free_apart; exchanged = free_exchanged }
