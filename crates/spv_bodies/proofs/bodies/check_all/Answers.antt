use Rattle.std.proofs.Common.{◌∙◌, sym}
use Rattle.spv_bodies.proofs.BodyLemmas.{body_done, body_kept, body_refused, few_after}
use Rattle.spv_bodies.proofs.bodies.check_all.Goals as goal

pub returns-then-not-branch : goal.returns-then-not-branch
returns-then-not-branch c =
    body_refused c.args.context.now c.loop-n.within c.args.insts.now c.loop-n.n c.index-insts-n.result c.loop-n-test.true c.index-insts-n.is
    (sym c.if-not-branch.true ∙ c.in_ok-keeps_body.ensures.kept) c.loop-n.invariant.refusals

pub loop-n-preserved : goal.loop-n-preserved
loop-n-preserved c = record {
  refusals = rw c.after-within.ensures (body_kept c.args.context.now c.loop-n.within c.args.insts.now c.loop-n.n c.index-insts-n.result c.loop-n-test.true c.index-insts-n.is
      (sym c.if-not-branch.false ∙ c.in_ok-keeps_body.ensures.kept) c.loop-n.invariant.refusals);
  matching = c.in_ok-keeps_body.ensures.same ∙ c.loop-n.invariant.matching;
  few = rw c.after-within.ensures (few_after c.loop-n.within c.index-insts-n.result c.loop-n.n c.loop-n.invariant.few);
}

pub returns : goal.returns
returns c = body_done c.args.context.now c.loop-n.within c.args.insts.now c.loop-n.n c.loop-n-test.false c.loop-n.invariant.refusals
