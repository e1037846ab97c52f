use Rattle.std.proofs.Common.{◌≡◌, length, None, arith, rules, sym, ◌∙◌, ap, inl, inr}
use Rattle.std.proofs.lemmas.Grind.{common_steps}
use Rattle.std.proofs.lemmas.List.{get_or_past, length-replicate}
use Rattle.std.proofs.lemmas.Bool.{cases_lt}
use Rattle.spv_index.specs.Firsts.{first_from, slot}
use Rattle.spv_index.proofs.FirstLemmas.{no_first, past_all}
use Rattle.spv_index.proofs.firsts.first_numbers.Goals as goal

pub back-preserved : goal.back-preserved
back-preserved c = grind (arith, common_steps)

pub returns : goal.returns
returns c =
    let none_left : c.back.n ≡ 0 = omega arith in
    let all : length c.back.numbers.items ≡ c.above-above.result
    = c.back.invariant.all ∙ ap length (c.in_ok-numbers.ensures.items_if_clones_equal (search rules)) ∙ length-replicate c.above-above.result None in
    let known = rw none_left at c.back.invariant.firsts in
    record {
      short = rw all c.above-above.ensures.limit;
      firsts = λ key small. elim (cases_lt key c.above-above.result) as (λ _. slot c.back.numbers.items key ≡ first_from 0 c.args.keys.now key) [
        | inl below ↦ known key (rw all below)
        | inr past ↦ get_or_past c.back.numbers.items key None (rw all past) ∙ sym (no_first 0 c.args.keys.now key (λ k lt e. past_all c.args.keys.now c.above-above.result key c.above-above.ensures.above small past k lt e))
      ];
    }
