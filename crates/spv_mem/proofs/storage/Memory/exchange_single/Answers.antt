use Rattle.std.proofs.Common.{◌∙◌, ℕ, List, ap, drop, length, subst, sym, take_at}
use Rattle.spv_base.specs.Variables.{Roots, root_id}
use Rattle.spv_base.specs.declared.values.Root.TheVariants.{Shared, Private, Local}
use Rattle.spv_mem.specs.Levels.{ExchangesAt, ExchangesLevel}
use Rattle.spv_mem.specs.Roots.{ExchangesIn}
use Rattle.spv_mem.specs.Memory.{IsMemory, Levels, Stores}
use Rattle.spv_mem.specs.Singles.{LeafAt, LeafLevel}
use Rattle.spv_mem.proofs.MemoryLemmas.{kept_at, local_stores, private_stores, shared_stores, stores_at}
use Rattle.spv_mem.proofs.SingleLemmas.{local_leaf, private_leaf, shared_leaf, told}
use Rattle.spv_mem.proofs.storage.Memory.exchange_single.Goals as goal

pub exchange_single-requires : goal.exchange_single-requires
exchange_single-requires c =
    shared_leaf _ c.args.inv c.in-Shared._id c.spot_of-spot.result.id c.args.leaf c.spot_of-spot.result.leaf c.args.path.now.value c.args.other.now (c.spot_of-spot.ensures.id ∙ ap root_id c.in-Shared.is) c.spot_of-spot.ensures.leaf (told _ c.args.self.now c.args.inv (Shared c.in-Shared._id) c.args.root c.args.leaf c.args.path.now.value c.args.other.now c.self.view_is c.in-Shared.is c.self.invariant c.requires.names c.requires.may)

pub invariant_of-self : goal.invariant_of-self
invariant_of-self c =
    let did = subst (λ (k : ℕ). ExchangesIn c.self.inside.shared k c.args.path.now.value c.args.other.now c.exchange_single.new.self c.exchange_single.new.other c.exchange_single.result) (c.spot_of-spot.ensures.id ∙ ap root_id c.in-Shared.is) c.exchange_single.ensures in
    kept_at _ c.args.self.now c.args.inv (record { root = c.args.root; path = c.args.path.now.value }) c.args.other.now _ c.exchange_single.new.other c.answer.result c.self.view_is c.self.invariant c.requires.may
    (stores_at _ c.args.self.now c.args.inv (record { root = c.args.root; path = c.args.path.now.value }) (Shared c.in-Shared._id) c.args.other.now _ c.exchange_single.new.other c.answer.result c.exchange_single.result c.self.view_is c.in-Shared.is c.answer.ensures
    (shared_stores _ c.args.inv c.in-Shared._id c.args.path.now.value c.args.other.now c.exchange_single.new.self c.exchange_single.new.other c.exchange_single.result did))

pub returns-in-Shared : goal.returns-in-Shared
returns-in-Shared c =
    let did = subst (λ (k : ℕ). ExchangesIn c.self.inside.shared k c.args.path.now.value c.args.other.now c.exchange_single.new.self c.exchange_single.new.other c.exchange_single.result) (c.spot_of-spot.ensures.id ∙ ap root_id c.in-Shared.is) c.exchange_single.ensures in
    stores_at _ c.args.self.now c.args.inv (record { root = c.args.root; path = c.args.path.now.value }) (Shared c.in-Shared._id) c.args.other.now _ c.exchange_single.new.other c.answer.result c.exchange_single.result c.self.view_is c.in-Shared.is c.answer.ensures
    (shared_stores _ c.args.inv c.in-Shared._id c.args.path.now.value c.args.other.now c.exchange_single.new.self c.exchange_single.new.other c.exchange_single.result did)

pub exchange_single_at-requires : goal.exchange_single_at-requires
exchange_single_at-requires c =
    subst (λ (ls : List Roots). ∥ LeafAt c.spot_of-spot.result.id ls c.args.inv c.spot_of-spot.result.leaf c.args.path.now.value c.args.other.now ∥₁) (sym c.deref_mut.ensures.value)
    (private_leaf _ c.args.inv c.in-Private._id c.spot_of-spot.result.id c.args.leaf c.spot_of-spot.result.leaf c.args.path.now.value c.args.other.now (c.spot_of-spot.ensures.id ∙ ap root_id c.in-Private.is) c.spot_of-spot.ensures.leaf (told _ c.args.self.now c.args.inv (Private c.in-Private._id) c.args.root c.args.leaf c.args.path.now.value c.args.other.now c.self.view_is c.in-Private.is c.self.invariant c.requires.names c.requires.may))

pub invariant_of-self-in-Private : goal.invariant_of-self-in-Private
invariant_of-self-in-Private c =
    let did = subst (λ (k : ℕ). ExchangesAt c.self.inside.privates.items c.args.inv k c.args.path.now.value c.args.other.now c.exchange_single_at.new.lists c.exchange_single_at.new.other c.exchange_single_at.result) (c.spot_of-spot.ensures.id ∙ ap root_id c.in-Private.is)
    (subst (λ (ls : List Roots). ExchangesAt ls c.args.inv c.spot_of-spot.result.id c.args.path.now.value c.args.other.now c.exchange_single_at.new.lists c.exchange_single_at.new.other c.exchange_single_at.result) c.deref_mut.ensures.value c.exchange_single_at.ensures) in
    let whole = take_at c.exchange_single_at.new.lists (drop (length c.exchange_single_at.new.lists) c.self.inside.privates.items) c.self.inside.privates.len (c.exchange_single_at.auto.lists ∙ c.deref_mut.ensures.len) in
    subst (λ (ls : List Roots). ∥ IsMemory (record { types = c.self.inside.types.value; targets = c.self.inside.targets; shared = c.self.inside.shared; privates = ls; locals = c.self.inside.locals.items }) ∥₁) (sym whole)
    (kept_at _ c.args.self.now c.args.inv (record { root = c.args.root; path = c.args.path.now.value }) c.args.other.now _ c.exchange_single_at.new.other c.answer-in-Private.result c.self.view_is c.self.invariant c.requires.may
    (stores_at _ c.args.self.now c.args.inv (record { root = c.args.root; path = c.args.path.now.value }) (Private c.in-Private._id) c.args.other.now _ c.exchange_single_at.new.other c.answer-in-Private.result c.exchange_single_at.result c.self.view_is c.in-Private.is c.answer-in-Private.ensures
    (private_stores _ c.args.inv c.in-Private._id c.args.path.now.value c.args.other.now c.exchange_single_at.new.lists c.exchange_single_at.new.other c.exchange_single_at.result did)))

pub returns-in-Private : goal.returns-in-Private
returns-in-Private c =
    let did = subst (λ (k : ℕ). ExchangesAt c.self.inside.privates.items c.args.inv k c.args.path.now.value c.args.other.now c.exchange_single_at.new.lists c.exchange_single_at.new.other c.exchange_single_at.result) (c.spot_of-spot.ensures.id ∙ ap root_id c.in-Private.is)
    (subst (λ (ls : List Roots). ExchangesAt ls c.args.inv c.spot_of-spot.result.id c.args.path.now.value c.args.other.now c.exchange_single_at.new.lists c.exchange_single_at.new.other c.exchange_single_at.result) c.deref_mut.ensures.value c.exchange_single_at.ensures) in
    let whole = take_at c.exchange_single_at.new.lists (drop (length c.exchange_single_at.new.lists) c.self.inside.privates.items) c.self.inside.privates.len (c.exchange_single_at.auto.lists ∙ c.deref_mut.ensures.len) in
    subst (λ (ls : List Roots). Stores c.args.self.now c.args.inv (record { root = c.args.root; path = c.args.path.now.value }) c.args.other.now (record { types = c.self.inside.types.value; targets = c.self.inside.targets; shared = c.self.inside.shared; privates = ls; locals = c.self.inside.locals.items }) c.exchange_single_at.new.other c.answer-in-Private.result) (sym whole)
    (stores_at _ c.args.self.now c.args.inv (record { root = c.args.root; path = c.args.path.now.value }) (Private c.in-Private._id) c.args.other.now _ c.exchange_single_at.new.other c.answer-in-Private.result c.exchange_single_at.result c.self.view_is c.in-Private.is c.answer-in-Private.ensures
    (private_stores _ c.args.inv c.in-Private._id c.args.path.now.value c.args.other.now c.exchange_single_at.new.lists c.exchange_single_at.new.other c.exchange_single_at.result did))

pub exchange_single_level-requires : goal.exchange_single_level-requires
exchange_single_level-requires c =
    subst (λ (ls : List Levels). ∥ LeafLevel c.spot_of-spot.result.id ls c.args.inv c.in-Local.depth c.spot_of-spot.result.leaf c.args.path.now.value c.args.other.now ∥₁) (sym c.deref_mut-in-Local.ensures.value)
    (local_leaf _ c.args.inv c.in-Local.depth c.in-Local._id c.spot_of-spot.result.id c.args.leaf c.spot_of-spot.result.leaf c.args.path.now.value c.args.other.now (c.spot_of-spot.ensures.id ∙ ap root_id c.in-Local.is) c.spot_of-spot.ensures.leaf (told _ c.args.self.now c.args.inv (Local c.in-Local.depth c.in-Local._id) c.args.root c.args.leaf c.args.path.now.value c.args.other.now c.self.view_is c.in-Local.is c.self.invariant c.requires.names c.requires.may))

pub invariant_of-self-in-Local : goal.invariant_of-self-in-Local
invariant_of-self-in-Local c =
    let did = subst (λ (k : ℕ). ExchangesLevel c.self.inside.locals.items c.args.inv c.in-Local.depth k c.args.path.now.value c.args.other.now c.exchange_single_level.new.levels c.exchange_single_level.new.other c.exchange_single_level.result) (c.spot_of-spot.ensures.id ∙ ap root_id c.in-Local.is)
    (subst (λ (ls : List Levels). ExchangesLevel ls c.args.inv c.in-Local.depth c.spot_of-spot.result.id c.args.path.now.value c.args.other.now c.exchange_single_level.new.levels c.exchange_single_level.new.other c.exchange_single_level.result) c.deref_mut-in-Local.ensures.value c.exchange_single_level.ensures) in
    let whole = take_at c.exchange_single_level.new.levels (drop (length c.exchange_single_level.new.levels) c.self.inside.locals.items) c.self.inside.locals.len (c.exchange_single_level.auto.levels ∙ c.deref_mut-in-Local.ensures.len) in
    subst (λ (ls : List Levels). ∥ IsMemory (record { types = c.self.inside.types.value; targets = c.self.inside.targets; shared = c.self.inside.shared; privates = c.self.inside.privates.items; locals = ls }) ∥₁) (sym whole)
    (kept_at _ c.args.self.now c.args.inv (record { root = c.args.root; path = c.args.path.now.value }) c.args.other.now _ c.exchange_single_level.new.other c.answer-in-Local.result c.self.view_is c.self.invariant c.requires.may
    (stores_at _ c.args.self.now c.args.inv (record { root = c.args.root; path = c.args.path.now.value }) (Local c.in-Local.depth c.in-Local._id) c.args.other.now _ c.exchange_single_level.new.other c.answer-in-Local.result c.exchange_single_level.result c.self.view_is c.in-Local.is c.answer-in-Local.ensures
    (local_stores _ c.args.inv c.in-Local.depth c.in-Local._id c.args.path.now.value c.args.other.now c.exchange_single_level.new.levels c.exchange_single_level.new.other c.exchange_single_level.result did)))

pub returns-in-Local : goal.returns-in-Local
returns-in-Local c =
    let did = subst (λ (k : ℕ). ExchangesLevel c.self.inside.locals.items c.args.inv c.in-Local.depth k c.args.path.now.value c.args.other.now c.exchange_single_level.new.levels c.exchange_single_level.new.other c.exchange_single_level.result) (c.spot_of-spot.ensures.id ∙ ap root_id c.in-Local.is)
    (subst (λ (ls : List Levels). ExchangesLevel ls c.args.inv c.in-Local.depth c.spot_of-spot.result.id c.args.path.now.value c.args.other.now c.exchange_single_level.new.levels c.exchange_single_level.new.other c.exchange_single_level.result) c.deref_mut-in-Local.ensures.value c.exchange_single_level.ensures) in
    let whole = take_at c.exchange_single_level.new.levels (drop (length c.exchange_single_level.new.levels) c.self.inside.locals.items) c.self.inside.locals.len (c.exchange_single_level.auto.levels ∙ c.deref_mut-in-Local.ensures.len) in
    subst (λ (ls : List Levels). Stores c.args.self.now c.args.inv (record { root = c.args.root; path = c.args.path.now.value }) c.args.other.now (record { types = c.self.inside.types.value; targets = c.self.inside.targets; shared = c.self.inside.shared; privates = c.self.inside.privates.items; locals = ls }) c.exchange_single_level.new.other c.answer-in-Local.result) (sym whole)
    (stores_at _ c.args.self.now c.args.inv (record { root = c.args.root; path = c.args.path.now.value }) (Local c.in-Local.depth c.in-Local._id) c.args.other.now _ c.exchange_single_level.new.other c.answer-in-Local.result c.exchange_single_level.result c.self.view_is c.in-Local.is c.answer-in-Local.ensures
    (local_stores _ c.args.inv c.in-Local.depth c.in-Local._id c.args.path.now.value c.args.other.now c.exchange_single_level.new.levels c.exchange_single_level.new.other c.exchange_single_level.result did))
