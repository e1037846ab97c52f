use Rattle.std.proofs.Common.{◌≡◌, IsSome, Some, subst, sym}
use Rattle.spv_base.specs.declared.values.Pointer.{Pointer}
use Rattle.spv_mem.specs.Memory.{MayStore, load_of, stored}
use Rattle.spv_mem.specs.Singles.{NamesRow}
use Rattle.spv_state.specs.State.{State}
use Rattle.spv_state.proofs.ChangeLemmas.{handed_is, put_memory, stored_is}
use Rattle.spv_state.proofs.whole.Whole.exchange_single.Goals as goal

pub exchange_single-stored-requires-clause-names : goal.exchange_single-stored-requires-clause-names
exchange_single-stored-requires-clause-names c =
    subst (λ (s : State). ∥ NamesRow s.memory c.args.i (record { root = c.args.root; path = c.args.path.now.value }) c.args.leaf 1 ∥₁) (sym c.self.view_is) c.requires.names

pub exchange_single-stored-requires-clause-may : goal.exchange_single-stored-requires-clause-may
exchange_single-stored-requires-clause-may c =
    subst (λ (s : State). ∥ MayStore s.memory c.args.i (record { root = c.args.root; path = c.args.path.now.value }) c.args.value.now ∥₁) (sym c.self.view_is) c.requires.may

pub returns-clause-after : goal.returns-clause-after
returns-clause-after c =
    let w = c.self.inside in
    let p : Pointer = record { root = c.args.root; path = c.args.path.now.value } in
    let there = subst (λ (s : State). IsSome (load_of s.memory c.args.i p)) (sym c.self.view_is) c.requires.there in
    put_memory w.plans w.memory c.exchange_single-stored.new.self w.stacks.items w.statuses c.args.self.now (stored c.args.i p c.args.value.now) c.self.view_is
    (stored_is w.memory c.args.i p c.args.value.now c.exchange_single-stored.new.self c.exchange_single-stored.new.other c.exchange_single-stored.result there c.exchange_single-stored.ensures)

pub returns-clause-handed : goal.returns-clause-handed
returns-clause-handed c =
    let w = c.self.inside in
    let p : Pointer = record { root = c.args.root; path = c.args.path.now.value } in
    let there = subst (λ (s : State). IsSome (load_of s.memory c.args.i p)) (sym c.self.view_is) c.requires.there in
    subst (λ (s : State). load_of s.memory c.args.i p ≡ Some c.exchange_single-stored.new.other) c.self.view_is
    (handed_is w.memory c.args.i p c.args.value.now c.exchange_single-stored.new.self c.exchange_single-stored.new.other c.exchange_single-stored.result there c.exchange_single-stored.ensures)
