use Rattle.std.proofs.Common.{◌≡◌, IsSome, Some, subst, sym}
use Rattle.spv_mem.specs.Memory.{MayStore, load_of, stored}
use Rattle.spv_state.specs.State.{State}
use Rattle.spv_state.proofs.ChangeLemmas.{handed_is, put_memory, stored_is}
use Rattle.spv_state.proofs.whole.Whole.store.Goals as goal

pub store-stored-requires : goal.store-stored-requires
store-stored-requires c =
    subst (λ (s : State). ∥ MayStore s.memory c.args.i c.args.pointer.now c.args.row.now ∥₁) (sym c.self.view_is) c.requires.may

pub returns-clause-after : goal.returns-clause-after
returns-clause-after c =
    let w = c.self.inside in
    let there = subst (λ (s : State). IsSome (load_of s.memory c.args.i c.args.pointer.now)) (sym c.self.view_is) c.requires.there in
    put_memory w.plans w.memory c.store-stored.new.self w.stacks.items w.statuses c.args.self.now (stored c.args.i c.args.pointer.now c.args.row.now) c.self.view_is
    (stored_is w.memory c.args.i c.args.pointer.now c.args.row.now c.store-stored.new.self c.store-stored.new.row c.store-stored.result there c.store-stored.ensures)

pub returns-clause-handed : goal.returns-clause-handed
returns-clause-handed c =
    let w = c.self.inside in
    let there = subst (λ (s : State). IsSome (load_of s.memory c.args.i c.args.pointer.now)) (sym c.self.view_is) c.requires.there in
    subst (λ (s : State). load_of s.memory c.args.i c.args.pointer.now ≡ Some c.store-stored.new.row) c.self.view_is
    (handed_is w.memory c.args.i c.args.pointer.now c.args.row.now c.store-stored.new.self c.store-stored.new.row c.store-stored.result there c.store-stored.ensures)
