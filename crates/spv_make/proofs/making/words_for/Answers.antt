use Rattle.std.proofs.Common.{ℕ, ◌*◌, List, ◌++◌, ap, ◌∙◌, arith}
use Rattle.std.specs.List.{flat_map}
use Rattle.spv_ops.specs.Encoding.{encoding}
use Rattle.spv_make.specs.Inputs.{words_for}
use Rattle.spv_make.specs.Instructions.{instructions}
use Rattle.spv_make.proofs.Insts.{instructions_are}
use Rattle.spv_make.proofs.making.words_for.Goals as goal

pub push_rows-requires : goal.push_rows-requires
push_rows-requires c = rw (c.all_rows.ensures (4 * c.args.n)) (instructions_are (4 * c.args.n) (omega arith))

pub returns : goal.returns
unfolding words_for
returns c =
    (rw (c.all_rows.ensures (4 * c.args.n)) at c.in_ok-push_rows.ensures) ∙ ap (λ (words : List ℕ). words ++ flat_map encoding (instructions (4 * c.args.n))) c.in_ok-words.ensures
