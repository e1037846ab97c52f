use Rattle.std.proofs.Common.{List, ap}
use Rattle.spv_base.specs.declared.values.PassedEvent.{PassedEvent}
use Rattle.spv_expr.specs.Bits.{inlined_in, local_bit}
use Rattle.spv_expr.specs.Variables.{meant}
use Rattle.spv_expr.proofs.GroupLemmas.{variable_by_events}
use Rattle.spv_expr.proofs.laws.bits_are_by_events.Goals as goal

pub returns : goal.returns
returns c = λ m inv t s u f id same j.
    variable_by_events m inv t s u f id j (ap (λ (es : List PassedEvent). local_bit m inv t es (meant t (inlined_in f) id) j) same)
