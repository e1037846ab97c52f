use Rattle.std.proofs.Common.{refl}
use Rattle.spv_text.specs.declared.lines.Wrong.TheVariants.{WrongOperands}
use Rattle.spv_text.specs.Listing.{line_of}
use Rattle.spv_text.proofs.InstLemmas.{as_told, inst_wrong}
use Rattle.spv_text.proofs.inst_reading.count_of.Goals as goal

pub returns-in_default-clause-err : goal.returns-in_default-clause-err
returns-in_default-clause-err c wrong e =
    as_told _ WrongOperands wrong c.args.word (line_of c.args.inst.now) e (inst_wrong c.args.inst.now c.args.word (line_of c.args.inst.now) c.requires refl (λ formed. let t = c.in_ok-is_formed.ensures.1 formed in absurd (cc)))
