use Rattle.std.proofs.Common.{◌+◌, ◌*◌, arith}
use Rattle.spv_alu.specs.Vectors.{component_at, joined_bit}
use Rattle.spv_alu.proofs.Casts.{next_bit_fits, next_bit, next_test, joined_bit_below, cast_lane}
use Rattle.spv_alu.proofs.bitcasts.bitcast.Goals as goal

pub overflow_add-bits : goal.overflow_add-bits
overflow_add-bits c =
    let fits = next_bit_fits c.loop-i.bits c.joined_bit-bit.result.0 c.loop-i.i (λ j. joined_bit c.args.from.now (c.args.index * c.args.width + j)) (joined_bit_below c.args.from.now c.args.width c.args.index) c.loop-i.invariant.bits c.joined_bit-bit.ensures.bit (omega arith) in
    record { fits = omega (arith, fits.0, fits.1) }

pub loop-i-preserved : goal.loop-i-preserved
loop-i-preserved c =
    record {
      bits = next_bit c.loop-i.bits c.joined_bit-bit.result.0 c.loop-i.i (λ j. joined_bit c.args.from.now (c.args.index * c.args.width + j)) (joined_bit_below c.args.from.now c.args.width c.args.index) c.loop-i.invariant.bits c.joined_bit-bit.ensures.bit (omega arith);
      defined = next_test c.loop-i.defined c.joined_bit-bit.result.1 c.loop-i.i (λ j. (component_at c.args.from.now (c.args.index * c.args.width + j)).defined) c.loop-i.invariant.defined c.joined_bit-bit.ensures.defined;
    }

pub returns-clause-lane : goal.returns-clause-lane
returns-clause-lane c =
    cast_lane c.args.from.now c.args.width c.args.index c.loop-i.i c.loop-i.bits c.loop-i.defined c.integer.result c.defined_if.result (omega arith) c.loop-i.invariant.bits c.loop-i.invariant.defined c.integer.ensures c.defined_if.ensures
