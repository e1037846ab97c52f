use Rattle.std.proofs.Common.{sym}
use Rattle.spv_operands.proofs.ReadingLemmas.{constant_plain, constant_value, ok_meant, value_none}
use Rattle.spv_operands.proofs.reading.elsewhere.Goals as goal

pub returns-in-Some-clause-value : goal.returns-in-Some-clause-value
returns-in-Some-clause-value c =
    constant_value c.args.accepted.now c.args.frame.now c.args.depth c.args.id c.in-Some.part
    (λ r h. c.constants_are_meant.ensures c.args.accepted.now c.args.id r c.insts-insts.ensures.accepted h) c.in-Some.ensures

pub returns-in-Some-clause-plain : goal.returns-in-Some-clause-plain
returns-in-Some-clause-plain c = constant_plain c.args.accepted.now c.args.id c.in-Some.part c.insts-insts.ensures.valid c.in-Some.ensures

pub returns-in-Some-meaning-clause-value : goal.returns-in-Some-meaning-clause-value
returns-in-Some-meaning-clause-value c =
    ok_meant c.args.accepted.now c.args.frame.now c.args.depth c.args.id c.in-Some-meaning.meaning c.by_meaning.result (sym c.in-Some-meaning.ensures) c.by_meaning.ensures.value

pub returns-in-None-clause-value : goal.returns-in-None-clause-value
returns-in-None-clause-value c = sym (value_none c.args.accepted.now c.args.frame.now c.args.depth c.args.id (sym c.in-None.ensures))
