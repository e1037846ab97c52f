use Rattle.std.proofs.Common.{◌∙◌, ◌≡◌, true, false, get_or, pos}
use Rattle.spv_consts.specs.Overrides.{has_misfit}
use Rattle.spv_consts.proofs.OverrideLemmas.{held_end, held_left, held_more}
use Rattle.spv_consts.proofs.overrides.without.Goals as goal

pub loop-number-preserved-then-contains_key : goal.loop-number-preserved-then-contains_key
loop-number-preserved-then-contains_key c =
    let h : true ≡ has_misfit c.args.index.now.insts c.args.types.now c.args.over.now c.args.index.now.insts (get_or c.args.numbers.now c.loop-number.number-index (0, pos 0)).0 = c.if-contains_key.ensures ∙ c.requires _ in
    held_left c.args.index.now.insts c.args.types.now c.args.over.now c.args.numbers.now c.loop-number.held.items c.loop-number.number-index (0, pos 0) c.loop-number-test.true h c.loop-number.invariant

pub loop-number-preserved : goal.loop-number-preserved
loop-number-preserved c =
    let h : false ≡ has_misfit c.args.index.now.insts c.args.types.now c.args.over.now c.args.index.now.insts (get_or c.args.numbers.now c.loop-number.number-index (0, pos 0)).0 = c.if-contains_key.ensures ∙ c.requires _ in
    held_more c.args.index.now.insts c.args.types.now c.args.over.now c.args.numbers.now c.loop-number.held.items _ c.loop-number.number-index (0, pos 0) c.loop-number-test.true h c.in_ok-push.ensures.items c.loop-number.invariant

pub returns : goal.returns
returns c = held_end c.args.index.now.insts c.args.types.now c.args.over.now c.args.numbers.now c.loop-number.held.items c.loop-number.number-index c.loop-number-test.false c.loop-number.invariant
