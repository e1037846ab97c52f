use Rattle.std.proofs.Math.Logic.{∥∥₁_map}
use Rattle.std.proofs.lemmas.Option.{slice_get-get_or, slice_get_past}
use Rattle.spv_mem.specs.Singles.{LeafAt}
use Rattle.spv_mem.proofs.MemoryLemmas.{exchanged_list, list_gone}
use Rattle.spv_mem.proofs.singles.exchange_single_at.Goals as goal

pub exchange_single-requires : goal.exchange_single-requires
exchange_single-requires c =
    ∥∥₁_map c.requires (λ (f : LeafAt c.args.spot.id c.args.lists.now c.args.k c.args.spot.leaf c.args.path.now.value c.args.other.now). f _ (slice_get-get_or c.args.lists.now c.args.k c.index-lists-k.result c.if-k-lists.true))

pub returns-then-k-lists : goal.returns-then-k-lists
returns-then-k-lists c =
    exchanged_list c.args.lists.now c.args.k c.args.spot.id c.args.path.now.value c.args.other.now c.exchange_single.new.self c.exchange_single.new.other c.exchange_single.result _
    (slice_get-get_or c.args.lists.now c.args.k c.index-lists-k.result c.if-k-lists.true) c.exchange_single.ensures

pub returns-else-k-lists : goal.returns-else-k-lists
returns-else-k-lists c = list_gone c.args.lists.now c.args.k c.args.spot.id c.args.path.now.value c.args.other.now (slice_get_past c.args.lists.now c.args.k c.if-k-lists.false)
