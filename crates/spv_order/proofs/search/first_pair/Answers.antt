use Rattle.std.proofs.Common.{◌≡◌, ◌+◌, ◌-◌, ℕ, subst, arith}
use Rattle.spv_order.specs.Sweep.{Clashes}
use Rattle.spv_order.proofs.SweepLemmas.{clashes_by}
use Rattle.spv_order.proofs.search.first_pair.Goals as goal

pub turning-second-requires : goal.turning-second-requires
turning-second-requires c = record {
  sorted = c.requires.sorted;
  free = c.requires.alone c.args.count;
  clash = rw c.if-found.true at c.clashes-found.ensures;
}

pub turning-first-requires : goal.turning-first-requires
turning-first-requires c =
    let b = c.turning-second.result in
    let is : b ≡ (b - 1) + 1 = omega (arith, c.turning-second.ensures.some) in
    record {
      sorted = c.requires.sorted;
      free = c.requires.alone (b - 1);
      clash = clashes_by c.args.touches.now c.args.count b (b - 1) c.requires.events is c.turning-second.ensures.clash;
    }

pub returns-then-found : goal.returns-then-found
returns-then-found c =
    let xs = c.args.touches.now in
    let b = c.turning-second.result in
    let d = c.turning-first.result in
    let is : d ≡ (d - 1) + 1 = omega (arith, c.turning-first.ensures.some) in
    record {
      earlier = omega (arith, c.turning-first.ensures.some, c.turning-first.ensures.most, c.turning-second.ensures.some);
      within = omega (arith, c.turning-second.ensures.some, c.turning-second.ensures.most);
      none_before = c.turning-second.ensures.free;
      least = c.turning-first.ensures.free;
      clash = c.in_ok-address.ensures.0;
      first = c.in_ok-address.ensures.1;
    }

-- where the first sweep found a clash, so does the last
pub returns-in_err-address : goal.returns-in_err-address
returns-in_err-address c =
    let d = c.turning-first.result in
    let is : d ≡ (d - 1) + 1 = omega (arith, c.turning-first.ensures.some) in
    let clash = subst (λ n. (a : ℕ) × Clashes c.args.touches.now n (c.turning-second.result - 1) a) is c.turning-first.ensures.clash in
    absurd (c.in_err-address.ensures clash.0 clash.1)
