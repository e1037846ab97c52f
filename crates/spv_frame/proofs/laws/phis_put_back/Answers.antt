use Rattle.std.proofs.Common.{ap, map, refl}
use Rattle.spv_base.specs.Variables.{Registers}
use Rattle.spv_frame.specs.Contents.{held}
use Rattle.spv_frame.specs.Frames.{Held}
use Rattle.spv_frame.specs.Phis.{given}
use Rattle.spv_frame.proofs.ContentLemmas.{as_many_phis, puts_back}
use Rattle.spv_frame.proofs.laws.phis_put_back.Goals as goal

pub returns : goal.returns
returns c = λ f slots sources differ phis. ap (λ (es : Registers). record f { values = es }) (puts_back slots (map (given f) sources) (map (held f) slots) f differ (as_many_phis f.plan.values f slots sources phis) refl)
