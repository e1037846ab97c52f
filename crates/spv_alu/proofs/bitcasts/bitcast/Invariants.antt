use Rattle.std.proofs.Common.{◌≡◌, ◌+◌, ◌*◌}
use Rattle.spv_alu.specs.Integers.{number_of_bits}
use Rattle.spv_alu.specs.Vectors.{all_below, component_at, joined_bit}
use Rattle.spv_alu.proofs.bitcasts.bitcast.Given as goal

abbrev pub invariant-loop-i : goal.invariant-loop-i
invariant-loop-i l = record {
  bits : l.bits ≡ number_of_bits l.i (λ i. joined_bit l.from (l.index * l.width + i));
  defined : l.defined ≡ all_below l.i (λ i. (component_at l.from (l.index * l.width + i)).defined);
}
