use Rattle.std.proofs.Common.{None, Option, ap}
use Rattle.spv_base.specs.declared.values.Value.{Value}
use Rattle.spv_sites.specs.Effects.{Effect, Next}
use Rattle.spv_computing.proofs.selects.takes.Goals as goal

pub returns-clause-value : goal.returns-clause-value
returns-clause-value c = let shows : Option Value → Effect = λ o. record { store = None; result = o; control = Next } in ap shows c.in_ok-gain.ensures.value

pub returns-clause-taken : goal.returns-clause-taken
returns-clause-taken c = (c.in_ok-gain.ensures.taken c.args.site.now.state c.args.site.now.inv, tt)
