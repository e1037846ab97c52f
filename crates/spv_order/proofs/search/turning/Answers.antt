use Rattle.std.proofs.Common.{◌≡◌, ◌-◌, subst, arith}
use Rattle.spv_order.specs.Sweep.{IsFree}
use Rattle.spv_order.proofs.SweepLemmas.{turns}
use Rattle.spv_order.proofs.search.turning.Goals as goal

pub loop-low-init : goal.loop-low-init
loop-low-init c = record {
  below = turns c.args.touches.now c.args.high c.args.also c.requires.free c.requires.clash;
  most = omega arith;
  free = c.requires.free;
  clash = c.requires.clash;
}

pub loop-low-preserved-then-found : goal.loop-low-preserved-then-found
loop-low-preserved-then-found c = record {
  below = omega (arith, c.loop-low-test.true);
  most = omega (arith, c.loop-low-test.true, c.loop-low.invariant.most);
  free = c.loop-low.invariant.free;
  clash = rw c.if-found.true at c.clashes-found.ensures;
}

pub loop-low-preserved : goal.loop-low-preserved
loop-low-preserved c = record {
  below = omega (arith, c.loop-low-test.true);
  most = c.loop-low.invariant.most;
  free = rw c.if-found.false at c.clashes-found.ensures;
  clash = c.loop-low.invariant.clash;
}

pub returns : goal.returns
returns c =
    let last : c.loop-low.low ≡ c.loop-low.high - 1 = omega (arith, c.loop-low.invariant.below, c.loop-low-test.false) in
    record {
      some = omega (arith, c.loop-low.invariant.below);
      most = c.loop-low.invariant.most;
      clash = c.loop-low.invariant.clash;
      free = λ a. subst (λ b. IsFree c.args.touches.now b c.args.also a) last (c.loop-low.invariant.free a);
    }
