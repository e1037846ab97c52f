use Rattle.std.proofs.Common.{◌-◌, arith}
use Rattle.spv_bodies.specs.Matching.{term_among}
use Rattle.spv_bodies.proofs.ClassLemmas.{grows_on, have_still, member_more, member_none, no_members}
use Rattle.spv_bodies.proofs.classes.members_class.Goals as goal

pub back-init : goal.back-init
back-init c = record {
  grows = c.in_ok-rest.ensures.grows;
  within = omega arith;
  rest = no_members c.number.new.self (term_among c.args.types.now c.args.limit) c.args.members.now c.in_ok-rest.rest c.in_ok-rest.ensures.there;
}

pub returns-in_default-clause-class : goal.returns-in_default-clause-class
returns-in_default-clause-class c =
    member_none c.back.terms c.args.types.now c.args.classes.now c.args.limit c.args.members.now (c.back.n - 1) (omega arith)
    (have_still c.args.terms.now c.back.terms c.args.types.now c.args.classes.now c.args.limit c.back.invariant.grows c.requires.have) (rw c.in_default.is at c.member_class.ensures)

pub back-preserved : goal.back-preserved
back-preserved c = record {
  grows = grows_on c.args.terms.now c.back.terms c.pair.new.self c.back.invariant.grows c.in_ok-rest-2.ensures.grows;
  within = omega arith;
  rest = member_more c.back.terms c.pair.new.self c.args.types.now c.args.classes.now c.args.limit c.args.members.now c.back.n (c.back.n - 1) c.in-Some.class c.back.rest c.in_ok-rest-2.rest (omega arith)
      c.in_ok-rest-2.ensures.grows (have_still c.args.terms.now c.back.terms c.args.types.now c.args.classes.now c.args.limit c.back.invariant.grows c.requires.have)
      (rw c.in-Some.is at c.member_class.ensures) c.back.invariant.rest c.in_ok-rest-2.ensures.there;
}
