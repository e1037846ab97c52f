use Rattle.std.proofs.Math.Logic.{∥∥₁_map}
use Rattle.std.proofs.lemmas.Option.{slice_get-get_or, slice_get_past}
use Rattle.spv_mem.specs.Levels.{FitAt, MayBePutAt}
use Rattle.spv_mem.proofs.MemoryLemmas.{exchanged_list, list_gone}
use Rattle.spv_mem.proofs.levels.exchange_at.Goals as goal

pub exchange-requires-clause-fit : goal.exchange-requires-clause-fit
exchange-requires-clause-fit c =
    ∥∥₁_map c.requires.fit (λ (f : FitAt c.args.types.now c.args.target.ty c.args.id c.args.lists.now c.args.k). f _ (slice_get-get_or c.args.lists.now c.args.k c.index-lists-k.result c.if-k-lists.true))

pub exchange-requires-clause-may : goal.exchange-requires-clause-may
exchange-requires-clause-may c =
    ∥∥₁_map c.requires.may (λ (f : MayBePutAt c.args.types.now c.args.target.ty c.args.id c.args.lists.now c.args.k c.args.path.now c.args.other.now). f _ (slice_get-get_or c.args.lists.now c.args.k c.index-lists-k.result c.if-k-lists.true))

pub returns-then-k-lists : goal.returns-then-k-lists
returns-then-k-lists c =
    exchanged_list c.args.lists.now c.args.k c.args.id c.args.path.now c.args.other.now c.exchange.new.self c.exchange.new.other c.exchange.result _
    (slice_get-get_or c.args.lists.now c.args.k c.index-lists-k.result c.if-k-lists.true) c.exchange.ensures

pub returns-else-k-lists : goal.returns-else-k-lists
returns-else-k-lists c = list_gone c.args.lists.now c.args.k c.args.id c.args.path.now c.args.other.now (slice_get_past c.args.lists.now c.args.k c.if-k-lists.false)
