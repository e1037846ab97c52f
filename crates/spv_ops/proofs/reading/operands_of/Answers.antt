use Rattle.std.proofs.Common.{sym, ◌∙◌}
use Rattle.std.proofs.lemmas.Result.{err_from_is_err_and}
use Rattle.spv_ops.specs.declared.grammar.Part.TheVariants.{Id}
use Rattle.spv_ops.proofs.OperandLoop.{goes_on, ends, ends_here, rest_is, rest_is_not}
use Rattle.spv_ops.proofs.reading.operands_of.Goals as goal

pub returns-then-ends_at : goal.returns-then-ends_at
returns-then-ends_at c =
    ends_here c.loop-part.operands c.args.parts.now c.loop-part.part-index Id c.args.rest c.loop-part.words.now _ c.loop-part-test.true
    (sym c.ends_at.ensures ∙ c.if-ends_at.true) c.loop-part.invariant

pub returns-in_err-words : goal.returns-in_err-words
returns-in_err-words c =
    let p = err_from_is_err_and c.from_residual.result c.from_residual.ensures.1 in
    rw (p.1, p.2) (ends c.in_err-words.field-0.0 c.loop-part.operands c.args.parts.now c.loop-part.part-index Id c.args.rest c.loop-part.words.now _ c.loop-part-test.true
    (sym c.ends_at.ensures ∙ c.if-ends_at.false) c.in_err-words.ensures c.loop-part.invariant)

pub loop-part-preserved : goal.loop-part-preserved
loop-part-preserved c =
    goes_on c.loop-part.operands c.take_part.new.operands c.args.parts.now c.loop-part.part-index Id c.args.rest c.loop-part.words.now c.in_ok-words.words.now _ c.loop-part-test.true
    (sym c.ends_at.ensures ∙ c.if-ends_at.false) c.in_ok-words.ensures c.loop-part.invariant

pub returns-then-not-is_rest : goal.returns-then-not-is_rest
returns-then-not-is_rest c =
    rest_is_not c.loop-part.operands c.args.parts.now c.loop-part.part-index c.args.rest c.loop-part.words.now _ c.loop-part-test.false
    (sym c.is_rest.ensures ∙ c.if-not-is_rest.true) c.loop-part.invariant

pub returns : goal.returns
returns c =
    rw c.in_ok-push_rest.ensures (rest_is c.loop-part.operands c.args.parts.now c.loop-part.part-index c.args.rest c.loop-part.words.now _ c.loop-part-test.false
    (sym c.is_rest.ensures ∙ c.if-not-is_rest.false) c.loop-part.invariant)
