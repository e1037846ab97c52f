use Rattle.std.proofs.Common.{◌≡◌, ◌<◌, ◌^◌}
use Rattle.spv_alu.specs.Integers.{number_of_bits}
use Rattle.spv_alu.specs.Vectors.{all_below}
use Rattle.spv_print.specs.Leaves.{bit_of, bits_in, digit}
use Rattle.spv_print.proofs.leaves.Leaf.bits_of.Given as goal

abbrev pub invariant-loop-i : goal.invariant-loop-i
invariant-loop-i l = record {
  bound : l.all.bound ≡ all_below l.i (λ i. (bit_of (bits_in l.bits) l.self i).bound);
  defined : l.all.defined ≡ all_below l.i (λ i. (bit_of (bits_in l.bits) l.self i).defined);
  number : l.all.number ≡ number_of_bits l.i (λ i. digit (bit_of (bits_in l.bits) l.self i));
  fits : l.all.number < 2 ^ l.i;
}
