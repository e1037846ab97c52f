use Rattle.std.proofs.Common.{refl}
use Rattle.spv_print.specs.Leaves.{bits_in}
use Rattle.spv_print.proofs.layouts.text.Goals as goal

pub returns-clause-ok : goal.returns-clause-ok
returns-clause-ok c = rw (c.in_ok-text.ensures.ok (bits_in c.args.bits.now) (λ k lt. refl), c.in_ok-layout.ensures) refl
