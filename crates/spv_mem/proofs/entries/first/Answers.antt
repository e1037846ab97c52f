use Rattle.std.proofs.Common.{◌∙◌, ℕ, Some, length, ap, refl}
use Rattle.std.proofs.lemmas.Option.{slice_get_read}
use Rattle.spv_mem.proofs.RootLemmas.{at_first, not_yet}
use Rattle.spv_mem.proofs.entries.first.Goals as goal

pub returns-then-entry-id : goal.returns-then-entry-id
returns-then-entry-id c =
    at_first c.args.id c.args.entries.now c.loop-k.k c.index-entries-k.result.1 c.loop-k.invariant
    (slice_get_read c.args.entries.now (length c.args.entries.now) c.loop-k.k c.index-entries-k.result refl c.loop-k-test.true c.index-entries-k.is ∙ ap (λ (i : ℕ). Some (i, c.index-entries-k.result.1)) c.if-entry-id.true)

pub loop-k-preserved : goal.loop-k-preserved
loop-k-preserved c =
    not_yet c.args.id c.args.entries.now c.loop-k.k c.index-entries-k.result
    (slice_get_read c.args.entries.now (length c.args.entries.now) c.loop-k.k c.index-entries-k.result refl c.loop-k-test.true c.index-entries-k.is) c.if-entry-id.false c.loop-k.invariant
