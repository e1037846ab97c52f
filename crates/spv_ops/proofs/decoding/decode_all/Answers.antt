use Rattle.std.proofs.lemmas.Result.{err_from_is_err_and}
use Rattle.spv_ops.proofs.InstLoop.{goes_on, ends, is_done}
use Rattle.spv_ops.proofs.InstLaws.{insts_stand}
use Rattle.spv_ops.proofs.decoding.decode_all.Goals as goal

pub returns-in_err-decode-clause-due : goal.returns-in_err-decode-clause-due
returns-in_err-decode-clause-due c =
    let p = err_from_is_err_and c.from_residual.result c.from_residual.ensures.1 in
    rw (p.1, p.2) (ends c.in_err-decode.field-0.0 c.loop-raw.insts.items c.args.raws.now c.loop-raw.raw-index c.raw-item.result _ c.loop-raw-test.true
    c.raw-item.is c.in_err-decode.ensures.answers c.loop-raw.invariant)

pub loop-raw-preserved : goal.loop-raw-preserved
loop-raw-preserved c =
    rw c.in_ok-push.ensures.items (goes_on c.loop-raw.insts.items c.args.raws.now c.loop-raw.raw-index c.raw-item.result c.in_ok-decode.field-0 _ c.loop-raw-test.true
    c.raw-item.is c.in_ok-decode.ensures.answers c.loop-raw.invariant)

pub returns-clause-due : goal.returns-clause-due
returns-clause-due c = is_done c.loop-raw.insts.items c.args.raws.now c.loop-raw.raw-index _ c.loop-raw-test.false c.loop-raw.invariant

pub returns-clause-words : goal.returns-clause-words
returns-clause-words c =
    insts_stand c.args.raws.now c.loop-raw.insts.items
    (is_done c.loop-raw.insts.items c.args.raws.now c.loop-raw.raw-index _ c.loop-raw-test.false c.loop-raw.invariant)
