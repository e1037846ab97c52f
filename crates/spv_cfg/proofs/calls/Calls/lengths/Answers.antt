use Rattle.std.proofs.Common.{◌≡◌, ◌<◌, ◌∙◌, ◌++◌, ◌∷◌, [], ℕ, List, length, get_or, replicate, ap, sym, arith, rules}
use Rattle.std.proofs.lemmas.List.{take_all, take_more}
use Rattle.spv_cfg.specs.Chains.{limit, longest}
use Rattle.spv_cfg.proofs.ChainLemmas.{lengths_all, longest-le, weights_are_lengths}
use Rattle.spv_cfg.proofs.calls.Calls.lengths.Goals as goal

pub overflow_cast-length : goal.overflow_cast-length
overflow_cast-length c =
    let ones : c.as_slice.result.now ≡ replicate c.count.result 1 = c.as_slice.ensures.value ∙ c.in_ok-ones.ensures.items_if_clones_equal (search rules) in
    let all : length c.as_slice-length-items.result.now ≡ c.count.result
    = ap length c.as_slice-length-items.ensures.value ∙ c.in_ok-heaviest.ensures.len ∙ sym c.count.ensures.count in
    let below : c.loop-length.length-index < c.count.result = rw all at c.loop-length-test.true in
    let is : get_or c.as_slice-length-items.result.now c.loop-length.length-index 0 ≡ longest limit c.args.self.now.list c.loop-length.length-index
    = rw c.as_slice-length-items.ensures.value
    (weights_are_lengths c.args.self.now.list c.as_slice.result.now c.in_ok-heaviest.heaviest.items c.count.result ones c.in_ok-heaviest.ensures.heaviest c.loop-length.length-index below) in
    let few = longest-le limit c.args.self.now.list c.loop-length.length-index in
    omega arith

pub loop-length-preserved : goal.loop-length-preserved
loop-length-preserved c =
    c.in_ok-push.ensures.items ∙ ap (λ (xs : List ℕ). xs ++ get_or c.as_slice-length-items.result.now c.loop-length.length-index 0 ∷ []) c.loop-length.invariant
    ∙ sym (take_more c.as_slice-length-items.result.now c.loop-length.length-index 0 c.loop-length-test.true)

pub returns-clause-lengths : goal.returns-clause-lengths
returns-clause-lengths c =
    let ones : c.as_slice.result.now ≡ replicate c.count.result 1 = c.as_slice.ensures.value ∙ c.in_ok-ones.ensures.items_if_clones_equal (search rules) in
    let whole : c.loop-length.lengths.items ≡ c.in_ok-heaviest.heaviest.items
    = c.loop-length.invariant ∙ take_all c.loop-length.length-index c.as_slice-length-items.result.now c.loop-length-test.false ∙ c.as_slice-length-items.ensures.value in
    whole ∙ lengths_all c.args.self.now.list c.in_ok-heaviest.heaviest.items (length c.args.self.now.functions) c.in_ok-heaviest.ensures.len
    (weights_are_lengths c.args.self.now.list c.as_slice.result.now c.in_ok-heaviest.heaviest.items (length c.args.self.now.functions) (rw c.count.ensures.count at ones)
    c.in_ok-heaviest.ensures.heaviest)
