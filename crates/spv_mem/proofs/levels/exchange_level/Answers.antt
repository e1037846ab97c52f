use Rattle.std.proofs.Math.Logic.{∥∥₁_map}
use Rattle.std.proofs.lemmas.Option.{slice_get-get_or, slice_get_past}
use Rattle.spv_mem.specs.Levels.{FitLevel, MayBePutLevel}
use Rattle.spv_mem.proofs.MemoryLemmas.{exchanged_level, level_gone}
use Rattle.spv_mem.proofs.levels.exchange_level.Goals as goal

pub exchange-requires-clause-fit : goal.exchange-requires-clause-fit
exchange-requires-clause-fit c =
    ∥∥₁_map c.requires.fit (λ (f : FitLevel c.args.types.now c.args.target.ty c.args.id c.args.levels.now c.args.k c.args.depth). f _ (slice_get-get_or c.args.levels.now c.args.k c.index-levels-k.result c.if-k-levels.true))

pub exchange-requires-clause-may : goal.exchange-requires-clause-may
exchange-requires-clause-may c =
    ∥∥₁_map c.requires.may (λ (f : MayBePutLevel c.args.types.now c.args.target.ty c.args.id c.args.levels.now c.args.k c.args.depth c.args.path.now c.args.other.now). f _ (slice_get-get_or c.args.levels.now c.args.k c.index-levels-k.result c.if-k-levels.true))

pub returns-then-k-levels : goal.returns-then-k-levels
returns-then-k-levels c =
    exchanged_level c.args.levels.now c.args.k c.args.depth c.args.id c.args.path.now c.args.other.now c.exchange.new.self c.exchange.new.other c.exchange.result _
    (slice_get-get_or c.args.levels.now c.args.k c.index-levels-k.result c.if-k-levels.true) c.exchange.ensures.room c.exchange.ensures.list

pub returns-else-k-levels : goal.returns-else-k-levels
returns-else-k-levels c = level_gone c.args.levels.now c.args.k c.args.depth c.args.id c.args.path.now c.args.other.now (slice_get_past c.args.levels.now c.args.k c.if-k-levels.false)
