use Rattle.std.proofs.Common.{◌≡◌, ◌∙◌, ◌-◌, ◌<◌, List, Some, length, sym, ap, slice_get, arith}
use Rattle.spv_base.specs.declared.instructions.Inst.{Inst}
use Rattle.spv_state.proofs.EntryLemmas.{word_small}
use Rattle.spv_state.proofs.start.words_of.Goals as goal

pub overflow_add-result : goal.overflow_add-result
overflow_add-result c =
    let a = c.args.accepted.now in
    let last = length c.insts.result.now - 1 in
    let at : slice_get a.insts last ≡ Some c.in-Some.inst.now = ap (λ (is : List Inst). slice_get is last) (sym c.insts.ensures.insts) ∙ sym c.in-Some.ensures.value in
    let small : c.in-Some.inst.now.word < 1048576 = word_small a last c.in-Some.inst.now c.insts.ensures.accepted at in
    omega arith
