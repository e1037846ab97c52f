use Rattle.std.proofs.Common.{◌≡◌, ◌∙◌, ℕ, List, Some, ap, drop, length, subst, sym, take_at}
use Rattle.spv_base.specs.Entries.{reads}
use Rattle.spv_base.specs.Variables.{Roots, root_id}
use Rattle.spv_types.specs.Types.{Types}
use Rattle.spv_mem.specs.Memory.{IsMemory, Levels, Stores}
use Rattle.spv_mem.specs.Levels.{ExchangesAt, ExchangesLevel, FitAt, FitLevel, MayBePutAt, MayBePutLevel}
use Rattle.spv_mem.specs.Roots.{AreFit, MayBePutIn}
use Rattle.spv_mem.proofs.MemoryLemmas.{kept_at, local_fit, local_may, local_stores, none_stores, private_fit, private_may, private_stores, shared_fit, shared_may, shared_stores, stores_at}
use Rattle.spv_base.specs.declared.values.Root.TheVariants.{Shared, Private, Local}
use Rattle.spv_mem.proofs.storage.Memory.store.Goals as goal

pub returns-in_default : goal.returns-in_default
returns-in_default c =
    none_stores _ c.args.self.now c.args.inv c.args.p.now c.args.row.now c.self.view_is c.self.invariant (sym (c.in_default.ensures ∙ ap (λ (k : ℕ). reads k c.self.inside.targets) c.id.ensures))

pub exchange-requires-clause-fit : goal.exchange-requires-clause-fit
exchange-requires-clause-fit c =
    let named : reads c.in-Shared.id c.self.inside.targets ≡ Some c.in-Some.target.ty = sym (c.in-Some.ensures ∙ ap (λ (k : ℕ). reads k c.self.inside.targets) (c.id.ensures ∙ ap root_id c.in-Shared.is)) in
    subst (λ (ts : Types). ∥ AreFit ts c.in-Some.target.ty c.in-Shared.id c.self.inside.shared ∥₁) (sym c.as_ref-types.ensures) (shared_fit _ c.in-Shared.id c.in-Some.target.ty c.self.invariant named)

pub exchange-requires-clause-may : goal.exchange-requires-clause-may
exchange-requires-clause-may c =
    let named : reads c.in-Shared.id c.self.inside.targets ≡ Some c.in-Some.target.ty = sym (c.in-Some.ensures ∙ ap (λ (k : ℕ). reads k c.self.inside.targets) (c.id.ensures ∙ ap root_id c.in-Shared.is)) in
    subst (λ (ts : Types). ∥ MayBePutIn ts c.in-Some.target.ty c.in-Shared.id c.self.inside.shared c.args.p.now.path c.args.row.now ∥₁) (sym c.as_ref-types.ensures)
    (shared_may _ c.args.self.now c.args.inv c.args.p.now c.in-Shared.id c.in-Some.target.ty c.args.row.now c.self.view_is c.in-Shared.is c.requires named)

pub invariant_of-self : goal.invariant_of-self
invariant_of-self c =
    kept_at _ c.args.self.now c.args.inv c.args.p.now c.args.row.now _ c.exchange.new.other c.answer.result c.self.view_is c.self.invariant c.requires
    (stores_at _ c.args.self.now c.args.inv c.args.p.now (Shared c.in-Shared.id) c.args.row.now _ c.exchange.new.other c.answer.result c.exchange.result c.self.view_is c.in-Shared.is c.answer.ensures
    (shared_stores _ c.args.inv c.in-Shared.id c.args.p.now.path c.args.row.now c.exchange.new.self c.exchange.new.other c.exchange.result c.exchange.ensures))

pub exchange_at-requires-clause-fit : goal.exchange_at-requires-clause-fit
exchange_at-requires-clause-fit c =
    let named : reads c.in-Private.id c.self.inside.targets ≡ Some c.in-Some.target.ty = sym (c.in-Some.ensures ∙ ap (λ (k : ℕ). reads k c.self.inside.targets) (c.id.ensures ∙ ap root_id c.in-Private.is)) in
    subst (λ (ts : Types). ∥ FitAt ts c.in-Some.target.ty c.in-Private.id c.deref_mut.result.now c.args.inv ∥₁) (sym c.as_ref-types.ensures)
    (subst (λ (ls : List Roots). ∥ FitAt c.self.inside.types.value c.in-Some.target.ty c.in-Private.id ls c.args.inv ∥₁) (sym c.deref_mut.ensures.value) (private_fit _ c.args.inv c.in-Private.id c.in-Some.target.ty c.self.invariant named))

pub exchange_at-requires-clause-may : goal.exchange_at-requires-clause-may
exchange_at-requires-clause-may c =
    let named : reads c.in-Private.id c.self.inside.targets ≡ Some c.in-Some.target.ty = sym (c.in-Some.ensures ∙ ap (λ (k : ℕ). reads k c.self.inside.targets) (c.id.ensures ∙ ap root_id c.in-Private.is)) in
    subst (λ (ts : Types). ∥ MayBePutAt ts c.in-Some.target.ty c.in-Private.id c.deref_mut.result.now c.args.inv c.args.p.now.path c.args.row.now ∥₁) (sym c.as_ref-types.ensures)
    (subst (λ (ls : List Roots). ∥ MayBePutAt c.self.inside.types.value c.in-Some.target.ty c.in-Private.id ls c.args.inv c.args.p.now.path c.args.row.now ∥₁) (sym c.deref_mut.ensures.value)
    (private_may _ c.args.self.now c.args.inv c.args.p.now c.in-Private.id c.in-Some.target.ty c.args.row.now c.self.view_is c.in-Private.is c.requires named))

pub invariant_of-self-in-Private : goal.invariant_of-self-in-Private
invariant_of-self-in-Private c =
    let did = subst (λ (ls : List Roots). ExchangesAt ls c.args.inv c.in-Private.id c.args.p.now.path c.args.row.now c.exchange_at.new.lists c.exchange_at.new.other c.exchange_at.result) c.deref_mut.ensures.value c.exchange_at.ensures in
    let whole = take_at c.exchange_at.new.lists (drop (length c.exchange_at.new.lists) c.self.inside.privates.items) c.self.inside.privates.len (c.exchange_at.auto.lists ∙ c.deref_mut.ensures.len) in
    subst (λ (ls : List Roots). ∥ IsMemory (record { types = c.self.inside.types.value; targets = c.self.inside.targets; shared = c.self.inside.shared; privates = ls; locals = c.self.inside.locals.items }) ∥₁) (sym whole)
    (kept_at _ c.args.self.now c.args.inv c.args.p.now c.args.row.now _ c.exchange_at.new.other c.answer-in-Private.result c.self.view_is c.self.invariant c.requires
    (stores_at _ c.args.self.now c.args.inv c.args.p.now (Private c.in-Private.id) c.args.row.now _ c.exchange_at.new.other c.answer-in-Private.result c.exchange_at.result c.self.view_is c.in-Private.is c.answer-in-Private.ensures
    (private_stores _ c.args.inv c.in-Private.id c.args.p.now.path c.args.row.now c.exchange_at.new.lists c.exchange_at.new.other c.exchange_at.result did)))

pub exchange_level-requires-clause-fit : goal.exchange_level-requires-clause-fit
exchange_level-requires-clause-fit c =
    let named : reads c.in-Local.id c.self.inside.targets ≡ Some c.in-Some.target.ty = sym (c.in-Some.ensures ∙ ap (λ (k : ℕ). reads k c.self.inside.targets) (c.id.ensures ∙ ap root_id c.in-Local.is)) in
    subst (λ (ts : Types). ∥ FitLevel ts c.in-Some.target.ty c.in-Local.id c.deref_mut-in-Local.result.now c.args.inv c.in-Local.depth ∥₁) (sym c.as_ref-types.ensures)
    (subst (λ (ls : List Levels). ∥ FitLevel c.self.inside.types.value c.in-Some.target.ty c.in-Local.id ls c.args.inv c.in-Local.depth ∥₁) (sym c.deref_mut-in-Local.ensures.value) (local_fit _ c.args.inv c.in-Local.depth c.in-Local.id c.in-Some.target.ty c.self.invariant named))

pub exchange_level-requires-clause-may : goal.exchange_level-requires-clause-may
exchange_level-requires-clause-may c =
    let named : reads c.in-Local.id c.self.inside.targets ≡ Some c.in-Some.target.ty = sym (c.in-Some.ensures ∙ ap (λ (k : ℕ). reads k c.self.inside.targets) (c.id.ensures ∙ ap root_id c.in-Local.is)) in
    subst (λ (ts : Types). ∥ MayBePutLevel ts c.in-Some.target.ty c.in-Local.id c.deref_mut-in-Local.result.now c.args.inv c.in-Local.depth c.args.p.now.path c.args.row.now ∥₁) (sym c.as_ref-types.ensures)
    (subst (λ (ls : List Levels). ∥ MayBePutLevel c.self.inside.types.value c.in-Some.target.ty c.in-Local.id ls c.args.inv c.in-Local.depth c.args.p.now.path c.args.row.now ∥₁) (sym c.deref_mut-in-Local.ensures.value)
    (local_may _ c.args.self.now c.args.inv c.args.p.now c.in-Local.depth c.in-Local.id c.in-Some.target.ty c.args.row.now c.self.view_is c.in-Local.is c.requires named))

pub invariant_of-self-in-Local : goal.invariant_of-self-in-Local
invariant_of-self-in-Local c =
    let did = subst (λ (ls : List Levels). ExchangesLevel ls c.args.inv c.in-Local.depth c.in-Local.id c.args.p.now.path c.args.row.now c.exchange_level.new.levels c.exchange_level.new.other c.exchange_level.result) c.deref_mut-in-Local.ensures.value c.exchange_level.ensures in
    let whole = take_at c.exchange_level.new.levels (drop (length c.exchange_level.new.levels) c.self.inside.locals.items) c.self.inside.locals.len (c.exchange_level.auto.levels ∙ c.deref_mut-in-Local.ensures.len) in
    subst (λ (ls : List Levels). ∥ IsMemory (record { types = c.self.inside.types.value; targets = c.self.inside.targets; shared = c.self.inside.shared; privates = c.self.inside.privates.items; locals = ls }) ∥₁) (sym whole)
    (kept_at _ c.args.self.now c.args.inv c.args.p.now c.args.row.now _ c.exchange_level.new.other c.answer-in-Local.result c.self.view_is c.self.invariant c.requires
    (stores_at _ c.args.self.now c.args.inv c.args.p.now (Local c.in-Local.depth c.in-Local.id) c.args.row.now _ c.exchange_level.new.other c.answer-in-Local.result c.exchange_level.result c.self.view_is c.in-Local.is c.answer-in-Local.ensures
    (local_stores _ c.args.inv c.in-Local.depth c.in-Local.id c.args.p.now.path c.args.row.now c.exchange_level.new.levels c.exchange_level.new.other c.exchange_level.result did)))

pub returns-in-Private : goal.returns-in-Private
returns-in-Private c =
    let did = subst (λ (ls : List Roots). ExchangesAt ls c.args.inv c.in-Private.id c.args.p.now.path c.args.row.now c.exchange_at.new.lists c.exchange_at.new.other c.exchange_at.result) c.deref_mut.ensures.value c.exchange_at.ensures in
    let whole = take_at c.exchange_at.new.lists (drop (length c.exchange_at.new.lists) c.self.inside.privates.items) c.self.inside.privates.len (c.exchange_at.auto.lists ∙ c.deref_mut.ensures.len) in
    subst (λ (ls : List Roots). Stores c.args.self.now c.args.inv c.args.p.now c.args.row.now (record { types = c.self.inside.types.value; targets = c.self.inside.targets; shared = c.self.inside.shared; privates = ls; locals = c.self.inside.locals.items }) c.exchange_at.new.other c.answer-in-Private.result) (sym whole)
    (stores_at _ c.args.self.now c.args.inv c.args.p.now (Private c.in-Private.id) c.args.row.now _ c.exchange_at.new.other c.answer-in-Private.result c.exchange_at.result c.self.view_is c.in-Private.is c.answer-in-Private.ensures
    (private_stores _ c.args.inv c.in-Private.id c.args.p.now.path c.args.row.now c.exchange_at.new.lists c.exchange_at.new.other c.exchange_at.result did))

pub returns-in-Local : goal.returns-in-Local
returns-in-Local c =
    let did = subst (λ (ls : List Levels). ExchangesLevel ls c.args.inv c.in-Local.depth c.in-Local.id c.args.p.now.path c.args.row.now c.exchange_level.new.levels c.exchange_level.new.other c.exchange_level.result) c.deref_mut-in-Local.ensures.value c.exchange_level.ensures in
    let whole = take_at c.exchange_level.new.levels (drop (length c.exchange_level.new.levels) c.self.inside.locals.items) c.self.inside.locals.len (c.exchange_level.auto.levels ∙ c.deref_mut-in-Local.ensures.len) in
    subst (λ (ls : List Levels). Stores c.args.self.now c.args.inv c.args.p.now c.args.row.now (record { types = c.self.inside.types.value; targets = c.self.inside.targets; shared = c.self.inside.shared; privates = c.self.inside.privates.items; locals = ls }) c.exchange_level.new.other c.answer-in-Local.result) (sym whole)
    (stores_at _ c.args.self.now c.args.inv c.args.p.now (Local c.in-Local.depth c.in-Local.id) c.args.row.now _ c.exchange_level.new.other c.answer-in-Local.result c.exchange_level.result c.self.view_is c.in-Local.is c.answer-in-Local.ensures
    (local_stores _ c.args.inv c.in-Local.depth c.in-Local.id c.args.p.now.path c.args.row.now c.exchange_level.new.levels c.exchange_level.new.other c.exchange_level.result did))
