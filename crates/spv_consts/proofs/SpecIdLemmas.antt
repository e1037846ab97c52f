-- The lowest word of some decorations, one after another.
use Rattle.std.proofs.Common.{◌≡◌, ◌∙◌, ℕ, ◌+◌, ◌<◌, ◌≤◌, List, length, get_or, drop, drop-cons, drop_of_length-le, add-one, Option, None, refl, sym, ap}
use Rattle.spv_base.specs.declared.instructions.Inst.{Inst}
use Rattle.spv_base.specs.Lowest.{lower}
use Rattle.spv_base.proofs.Exports.{lower_assoc, lower_none}
use Rattle.spv_consts.specs.SpecIds.{lowest_wrong, wrong_spec_id}

pub lowest_more : (all insts : List Inst) (k : ℕ) (i : Inst) (so_far now word whole : Option ℕ) → k < length insts → i ≡ get_or insts k i → word ≡ wrong_spec_id all i → now ≡ lower so_far word
    → lower so_far (lowest_wrong all (drop k insts)) ≡ whole → lower now (lowest_wrong all (drop (k + 1) insts)) ≡ whole
unfolding lowest_wrong
lowest_more all insts k i so_far now word whole l e h m g =
    let one : lowest_wrong all (drop k insts) ≡ lower (wrong_spec_id all i) (lowest_wrong all (drop (k + 1) insts)) = rw (drop-cons insts k i l, ← e, add-one) refl in
    rw (m, h, lower_assoc) (ap (lower so_far) (sym one) ∙ g)

pub lowest_end : (all insts : List Inst) (k : ℕ) (so_far whole : Option ℕ) → length insts ≤ k → lower so_far (lowest_wrong all (drop k insts)) ≡ whole → so_far ≡ whole
unfolding lowest_wrong
lowest_end all insts k so_far whole l g =
    let none : lowest_wrong all (drop k insts) ≡ None = rw (drop_of_length-le insts l) refl in
    sym (lower_none so_far) ∙ ap (lower so_far) (sym none) ∙ g
