-- Bits and nesting, each saturated.
use Rattle.spv_base.specs.Saturation.{saturated}
use Rattle.spv_dbg.specs.declared.measures.Measure.{Measure}

abbrev pub saturated_measure : Measure → Measure
saturated_measure x = record { bits = saturated x.bits; nesting = saturated x.nesting }
