use Rattle.std.proofs.Common.{◌∙◌, ap, sym}
use Rattle.std.specs.Prelude.{option_copied}
use Rattle.spv_stops.specs.Watches.{WatchKey}
use Rattle.spv_hits.proofs.ReadLemmas.{watched_read}
use Rattle.spv_hits.proofs.bits.watched_in.Goals as goal

pub returns : goal.returns
returns c =
    let k = c.key.view_is in
    watched_read c.args.tables.now c.args.key.now c.args.memory.now c.args.stack.now (option_copied c.as_ref.result) c.key.inside.inv c.key.inside.variable c.key.inside.first c.key.inside.count c.in_ok-bits.bits.items
    (ap (λ (x : WatchKey). x.inv) k) (ap (λ (x : WatchKey). x.variable) k) (ap (λ (x : WatchKey). x.first) k) (ap (λ (x : WatchKey). x.count) k)
    (c.as_ref.ensures.value ∙ c.frame_of-frame.ensures) (sym c.is_there.ensures ∙ c.if-not-is_there.false) c.in_ok-bits.ensures
