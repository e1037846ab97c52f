use Rattle.std.proofs.Common.{◌≡◌, None, subst}
use Rattle.std.specs.Prelude.{◌↔◌, IsTrue}
use Rattle.spv_base.specs.Entries.{reads}
use Rattle.spv_mem.specs.Memory.{Held}
use Rattle.spv_mem.proofs.storage.Memory.is_fresh_shared.Goals as goal

pub returns : goal.returns
returns c = subst (λ (m : Held). IsTrue c.has_none.result ↔ reads c.args.id m.shared ≡ None) c.self.view_is c.has_none.ensures
