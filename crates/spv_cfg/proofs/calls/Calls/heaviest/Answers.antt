use Rattle.std.proofs.Common.{◌≡◌, get_or, rules, ◌∙◌, ap, refl, List, ℕ, arith}
use Rattle.std.proofs.lemmas.Grind.{common_steps}
use Rattle.std.proofs.lemmas.List.{get_or-replicate}
use Rattle.spv_cfg.proofs.ChainLemmas.{heaviest-zero, heavier}
use Rattle.spv_cfg.proofs.calls.Calls.heaviest.Goals as goal

pub heavier-init : goal.heavier-init
heavier-init c = record {
  few = omega arith;
  len = grind (arith, common_steps, c.in_ok-heaviest.ensures.items);
  heaviest_are = λ weigh are f lt. rw heaviest-zero (ap (λ (xs : List ℕ). get_or xs f 0) (c.in_ok-heaviest.ensures.items_if_clones_equal (search rules)) ∙ get_or-replicate {A = ℕ} _ f 0 0 lt);
}

pub most_called-requires : goal.most_called-requires
most_called-requires c = rw (c.as_slice.ensures.value, c.heavier.invariant.len, c.requires) c.list-calls.ensures.within

pub sums-requires : goal.sums-requires
sums-requires c =
    rw (c.as_slice-in-heavier.ensures.value, c.in_ok-called.ensures.len, c.as_slice.ensures.value, c.heavier.invariant.len) refl

pub heavier-preserved : goal.heavier-preserved
heavier-preserved c =
    let slice = c.as_slice.ensures.value in
    record {
      few = omega arith;
      len = c.in_ok-heavier.ensures.len;
      heaviest_are = λ weigh are. heavier c.args.self.now.list weigh c.args.weights.now c.heavier.heaviest.items c.in_ok-called.called.items c.in_ok-heavier.heavier.items c.heavier.most
          c.heavier.invariant.len (rw (c.requires, ← c.list-calls.ensures.list) c.list-calls.ensures.within) are (c.heavier.invariant.heaviest_are weigh are)
          (rw (slice, c.list-calls.ensures.list) at c.in_ok-called.ensures.called)
          (rw c.as_slice-in-heavier.ensures.value at c.in_ok-heavier.ensures.sums);
    }

pub returns-clause-len : goal.returns-clause-len
returns-clause-len c = c.heavier.invariant.len ∙ c.requires

pub returns-clause-heaviest : goal.returns-clause-heaviest
returns-clause-heaviest c =
    let full : c.heavier.most ≡ 65 = omega arith in
    rw full at c.heavier.invariant.heaviest_are
