use Rattle.std.proofs.Common.{◌≡◌, ◌-◌, suc, arith}
use Rattle.spv_print.proofs.NumberLemmas.{next_digit}
use Rattle.spv_print.proofs.numbers.push_hex.Goals as goal

pub overflow_mul-left : goal.overflow_mul-left
overflow_mul-left c = record { fits = omega (arith, c.digits.invariant.few) }

pub overflow_shr-number : goal.overflow_shr-number
overflow_shr-number c = omega (arith, c.digits.invariant.few, c.digits-test.true)

pub digits-preserved : goal.digits-preserved
digits-preserved c =
    let one : c.digits.left ≡ suc (c.digits.left - 1) = omega (arith, c.digits-test.true) in
    let next = next_digit c.digits.text.items _ c.digits.left (c.digits.left - 1) c.args.number one c.digits.invariant.text in
    record {
      text = rw (c.in_ok-push.ensures.items, c.hex_digit.ensures) next;
      few = omega (arith, c.digits.invariant.few);
    }
