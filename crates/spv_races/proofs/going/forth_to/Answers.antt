use Rattle.std.proofs.Common.{◌≤◌, ◌∙◌, ◌+◌, refl, arith}
use Rattle.spv_races.proofs.WayLemmas.{advanced, ended, on_begins, on_ends, on_then, same_end}
use Rattle.spv_races.proofs.going.forth_to.Goals as goal

pub up-init : goal.up-init
up-init g c = record {
  on = on_begins c.args.group.now c.args.steps.now (omega (arith, c.position-position.ensures.position, c.position-position.ensures.within));
  until = c.requires.before;
  hits = λ x. refl;
  told = λ x. refl;
  suits = λ p is. is;
  tests = refl;
  follows = c.requires.follows;
}

pub up-preserved : goal.up-preserved
up-preserved g c =
    let up = c.up.invariant in
    let done = c.in_ok-more.ensures in
    let f = done.on in
    let now = c.up.group in
    let next = c.advance.new.group in
    let gone = advanced c.in_ok-more.more now.group next.group done.gone c.if-not-more.false in
    let end = same_end c.args.group.now.group now.group up.on.same in
    let here = up.on.within in
    record {
      on = on_then c.args.group.now now next c.args.steps.now c.up.steps up.on f.same f.limit f.later (f.within (omega (arith, here, end))) f.kept c.advance.new.steps done.counted (omega (arith, done.cost, gone));
      until = omega (arith, gone, c.up-test.true, c.position.ensures.position);
      hits = λ x. done.hits x ∙ up.hits x;
      told = λ x. done.told x ∙ up.told x;
      suits = λ p is. done.suits p (up.suits p is);
      tests = done.tests ∙ up.tests;
      follows = done.follows;
    }

pub returns-in_err-more-clause-same : goal.returns-in_err-more-clause-same
returns-in_err-more-clause-same g c =
    let up = c.up.invariant in
    let done = c.in_err-more.ensures in
    let f = done.on in
    let now = c.up.group in
    let end = same_end c.args.group.now.group now.group up.on.same in
    let here = up.on.within in
    let low : now.group.position + 1 ≤ c.args.target = omega (arith, c.up-test.true, c.position.ensures.position) in
    let r = on_ends c.args.group.now now c.advance.new.group c.args.steps.now c.up.steps up.on f.same f.limit f.later (f.within (omega (arith, here, end))) f.kept c.args.target c.advance.new.steps (omega (arith, low)) done.counted done.cost in
    r.same

pub returns-in_err-more-clause-limit : goal.returns-in_err-more-clause-limit
returns-in_err-more-clause-limit g c =
    let up = c.up.invariant in
    let done = c.in_err-more.ensures in
    let f = done.on in
    let now = c.up.group in
    let end = same_end c.args.group.now.group now.group up.on.same in
    let here = up.on.within in
    let low : now.group.position + 1 ≤ c.args.target = omega (arith, c.up-test.true, c.position.ensures.position) in
    let r = on_ends c.args.group.now now c.advance.new.group c.args.steps.now c.up.steps up.on f.same f.limit f.later (f.within (omega (arith, here, end))) f.kept c.args.target c.advance.new.steps (omega (arith, low)) done.counted done.cost in
    r.limit

pub returns-in_err-more-clause-within : goal.returns-in_err-more-clause-within
returns-in_err-more-clause-within g c =
    let up = c.up.invariant in
    let done = c.in_err-more.ensures in
    let f = done.on in
    let now = c.up.group in
    let end = same_end c.args.group.now.group now.group up.on.same in
    let here = up.on.within in
    let low : now.group.position + 1 ≤ c.args.target = omega (arith, c.up-test.true, c.position.ensures.position) in
    let r = on_ends c.args.group.now now c.advance.new.group c.args.steps.now c.up.steps up.on f.same f.limit f.later (f.within (omega (arith, here, end))) f.kept c.args.target c.advance.new.steps (omega (arith, low)) done.counted done.cost in
    r.within

pub returns-in_err-more-clause-kept : goal.returns-in_err-more-clause-kept
returns-in_err-more-clause-kept g c =
    let up = c.up.invariant in
    let done = c.in_err-more.ensures in
    let f = done.on in
    let now = c.up.group in
    let end = same_end c.args.group.now.group now.group up.on.same in
    let here = up.on.within in
    let low : now.group.position + 1 ≤ c.args.target = omega (arith, c.up-test.true, c.position.ensures.position) in
    let r = on_ends c.args.group.now now c.advance.new.group c.args.steps.now c.up.steps up.on f.same f.limit f.later (f.within (omega (arith, here, end))) f.kept c.args.target c.advance.new.steps (omega (arith, low)) done.counted done.cost in
    r.kept

pub returns-in_err-more-clause-counted : goal.returns-in_err-more-clause-counted
returns-in_err-more-clause-counted g c =
    let up = c.up.invariant in
    let done = c.in_err-more.ensures in
    let f = done.on in
    let now = c.up.group in
    let end = same_end c.args.group.now.group now.group up.on.same in
    let here = up.on.within in
    let low : now.group.position + 1 ≤ c.args.target = omega (arith, c.up-test.true, c.position.ensures.position) in
    let r = on_ends c.args.group.now now c.advance.new.group c.args.steps.now c.up.steps up.on f.same f.limit f.later (f.within (omega (arith, here, end))) f.kept c.args.target c.advance.new.steps (omega (arith, low)) done.counted done.cost in
    r.counted

pub returns-in_err-more-clause-cost : goal.returns-in_err-more-clause-cost
returns-in_err-more-clause-cost g c =
    let up = c.up.invariant in
    let done = c.in_err-more.ensures in
    let f = done.on in
    let now = c.up.group in
    let end = same_end c.args.group.now.group now.group up.on.same in
    let here = up.on.within in
    let low : now.group.position + 1 ≤ c.args.target = omega (arith, c.up-test.true, c.position.ensures.position) in
    let r = on_ends c.args.group.now now c.advance.new.group c.args.steps.now c.up.steps up.on f.same f.limit f.later (f.within (omega (arith, here, end))) f.kept c.args.target c.advance.new.steps (omega (arith, low)) done.counted done.cost in
    r.cost

pub returns-in_err-more-clause-hits : goal.returns-in_err-more-clause-hits
returns-in_err-more-clause-hits g c = let up = c.up.invariant in let done = c.in_err-more.ensures in λ x. done.hits x ∙ up.hits x

pub returns-in_err-more-clause-told : goal.returns-in_err-more-clause-told
returns-in_err-more-clause-told g c = let up = c.up.invariant in let done = c.in_err-more.ensures in λ x. done.told x ∙ up.told x

pub returns-in_err-more-clause-suits : goal.returns-in_err-more-clause-suits
returns-in_err-more-clause-suits g c = let up = c.up.invariant in let done = c.in_err-more.ensures in λ p is. done.suits p (up.suits p is)

pub returns-in_err-more-clause-tests : goal.returns-in_err-more-clause-tests
returns-in_err-more-clause-tests g c = let up = c.up.invariant in let done = c.in_err-more.ensures in done.tests ∙ up.tests

pub returns-then-not-more : goal.returns-then-not-more
returns-then-not-more g c =
    let up = c.up.invariant in
    let done = c.in_ok-more.ensures in
    let f = done.on in
    let now = c.up.group in
    let next = c.advance.new.group in
    let end = same_end c.args.group.now.group now.group up.on.same in
    let here = up.on.within in
    let last = ended c.in_ok-more.more now.group next.group done.gone c.if-not-more.true in
    let low : now.group.position + 1 ≤ c.args.target = omega (arith, c.up-test.true, c.position.ensures.position) in
    let r = on_ends c.args.group.now now next c.args.steps.now c.up.steps up.on f.same f.limit f.later (f.within (omega (arith, here, end))) f.kept c.args.target c.advance.new.steps (omega (arith, low)) done.counted done.cost in
    let later = f.later in
    let within = r.within in
    record {
      position = omega (arith, last, end, low, later, within);
      same = r.same;
      limit = r.limit;
      within = r.within;
      kept = r.kept;
      hits = λ x. done.hits x ∙ up.hits x;
      told = λ x. done.told x ∙ up.told x;
      suits = λ p is. done.suits p (up.suits p is);
      tests = done.tests ∙ up.tests;
      follows = done.follows;
      counted = r.counted;
      cost = r.cost;
    }

pub returns : goal.returns
returns g c =
    let up = c.up.invariant in
    let on = up.on in
    let within = on.within in
    let took = on.cost in
    let until = up.until in
    record {
      position = omega (arith, until, within, c.up-test.false, c.position.ensures.position);
      same = on.same;
      limit = on.limit;
      within = on.within;
      kept = on.kept;
      hits = up.hits;
      told = up.told;
      suits = up.suits;
      tests = up.tests;
      follows = up.follows;
      counted = on.counted;
      cost = omega (arith, took, until);
    }
