use Rattle.std.proofs.Common.{subst, sym}
use Rattle.spv_base.specs.declared.values.Value.{Value}
use Rattle.spv_mem.specs.Memory.{MayStore}
use Rattle.spv_mem.proofs.storage.Memory.store_cell.Goals as goal

pub store-requires : goal.store-requires
store-requires c = subst (λ (u : Value). ∥ MayStore c.args.self.now c.args.inv c.args.p.now u ∥₁) (sym c.put_cell.ensures) c.requires.may
