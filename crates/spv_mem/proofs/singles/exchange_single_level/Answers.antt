use Rattle.std.proofs.Math.Logic.{∥∥₁_map}
use Rattle.std.proofs.lemmas.Option.{slice_get-get_or, slice_get_past}
use Rattle.spv_mem.specs.Singles.{LeafLevel}
use Rattle.spv_mem.proofs.MemoryLemmas.{exchanged_level, level_gone}
use Rattle.spv_mem.proofs.singles.exchange_single_level.Goals as goal

pub exchange_single-requires : goal.exchange_single-requires
exchange_single-requires c =
    ∥∥₁_map c.requires (λ (f : LeafLevel c.args.spot.id c.args.levels.now c.args.k c.args.depth c.args.spot.leaf c.args.path.now.value c.args.other.now). f _ (slice_get-get_or c.args.levels.now c.args.k c.index-levels-k.result c.if-k-levels.true))

pub returns-then-k-levels : goal.returns-then-k-levels
returns-then-k-levels c =
    exchanged_level c.args.levels.now c.args.k c.args.depth c.args.spot.id c.args.path.now.value c.args.other.now c.exchange_single.new.self c.exchange_single.new.other c.exchange_single.result _
    (slice_get-get_or c.args.levels.now c.args.k c.index-levels-k.result c.if-k-levels.true) c.exchange_single.ensures.room c.exchange_single.ensures.list

pub returns-else-k-levels : goal.returns-else-k-levels
returns-else-k-levels c = level_gone c.args.levels.now c.args.k c.args.depth c.args.spot.id c.args.path.now.value c.args.other.now (slice_get_past c.args.levels.now c.args.k c.if-k-levels.false)
