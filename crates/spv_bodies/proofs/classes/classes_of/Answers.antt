use Rattle.std.proofs.Common.{◌≡◌, length, arith}
use Rattle.spv_bodies.proofs.ClassLemmas.{classes_are, one_has, one_longer}
use Rattle.spv_bodies.proofs.classes.classes_of.Goals as goal

pub loop-n-preserved : goal.loop-n-preserved
loop-n-preserved c = record {
  count = rw c.in_ok-push.ensures.items (one_longer c.loop-n.classes.items c.in_ok-class.class c.loop-n.n c.loop-n.invariant.count);
  have = rw c.in_ok-push.ensures.items (one_has c.loop-n.terms c.form_class.new.terms c.args.types.now c.loop-n.classes.items c.loop-n.n c.in_ok-class.class c.form_at.result.now
      c.in_ok-class.ensures.grows c.loop-n.invariant.count c.form_at.ensures c.loop-n.invariant.have c.in_ok-class.ensures.class);
}

pub returns-clause-classes : goal.returns-clause-classes
returns-clause-classes c =
    let all : c.loop-n.n ≡ length c.args.types.now = omega arith in
    classes_are c.loop-n.terms c.args.types.now c.loop-n.classes.items c.loop-n.n c.differ.ensures all c.loop-n.invariant.have
