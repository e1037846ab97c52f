use Rattle.std.proofs.Common.{◌≡◌, ◌∙◌, ◌+◌, ap, refl, arith}
use Rattle.spv_alu.specs.Integers.{number_of_bits}
use Rattle.spv_alu.specs.Vectors.{all_below}
use Rattle.spv_print.specs.Leaves.{bit_of, bits_in, digit}
use Rattle.spv_print.proofs.LeafLemmas.{digit-lt, next_fits, next_number, next_test, reached}
use Rattle.spv_print.proofs.leaves.Leaf.bits_of.Goals as goal

pub loop-i-init : goal.loop-i-init
unfolding all_below number_of_bits
loop-i-init c = record { bound = refl; defined = refl; number = refl; fits = omega arith }

pub loop-i-preserved : goal.loop-i-preserved
loop-i-preserved c =
    let bits = bits_in c.args.bits.now in
    let at = bit_of bits c.args.self in
    let i = c.loop-i.i in
    let bit = c.bit_in-bit.result in
    let is : bit ≡ at i = c.bit_in-bit.ensures ∙ ap bits (c.saturating_add.ensures) ∙ reached c.args.bits.now (c.args.self.first + c.from.result) (omega arith) ∙ ap (λ k. bits (c.args.self.first + k)) c.from.ensures in
    record {
      bound = c.with-all.ensures.bound ∙ next_test (λ i. (at i).bound) c.loop-i.all.bound bit.bound i c.loop-i.invariant.bound (ap (λ b. b.bound) is);
      defined = c.with-all.ensures.defined ∙ next_test (λ i. (at i).defined) c.loop-i.all.defined bit.defined i c.loop-i.invariant.defined (ap (λ b. b.defined) is);
      number = c.with-all.ensures.number ∙ next_number (λ i. digit (at i)) c.loop-i.all.number (digit bit) i c.loop-i.invariant.number (ap digit is);
      fits = rw c.with-all.ensures.number (next_fits c.loop-i.all.number (digit bit) i c.loop-i.invariant.fits (digit-lt bit));
    }
