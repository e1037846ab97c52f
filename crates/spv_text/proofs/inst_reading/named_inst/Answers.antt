use Rattle.std.proofs.Common.{subst, ◌∙◌}
use Rattle.spv_text.specs.Reading.{IsOpcode}
use Rattle.spv_text.specs.declared.lines.Wrong.TheVariants.{WrongOperands}
use Rattle.spv_text.proofs.InstLemmas.{as_told, split_wrong}
use Rattle.spv_text.proofs.inst_reading.named_inst.Goals as goal

pub returns-in_default-2-clause-err : goal.returns-in_default-2-clause-err
returns-in_default-2-clause-err c wrong word e =
    let none = rw c.in_default-2.is at c.in_ok-ty.ensures in
    as_told _ WrongOperands wrong word c.args.line.now e
    (split_wrong _ c.in-Some.op word c.args.line.now c.in-Some.ensures.0 (subst (λ n. IsOpcode c.in-Some.op n) c.as_slice.ensures c.in-Some.ensures.1) (λ ty id operands h f. none ty id operands h (c.as_slice-2.ensures ∙ f)))
