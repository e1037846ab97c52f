use Rattle.std.proofs.Common.{ap, arith}
use Rattle.spv_group.specs.Group.{Held}
use Rattle.spv_races.proofs.WayLemmas.{forward}
use Rattle.spv_races.proofs.going.advance.Goals as goal

pub returns-in_err-go_on-clause-on : goal.returns-in_err-go_on-clause-on
returns-in_err-go_on-clause-on g c = forward c.go_on.result c.args.group.now c.go_on.new.group c.go_on.ensures.goes

pub returns-in-Some-clause-on : goal.returns-in-Some-clause-on
returns-in-Some-clause-on g c = forward c.go_on.result c.args.group.now c.go_on.new.group c.go_on.ensures.goes

pub returns-in-None-clause-on : goal.returns-in-None-clause-on
returns-in-None-clause-on g c = forward c.go_on.result c.args.group.now c.go_on.new.group c.go_on.ensures.goes

pub returns-in-Some-clause-gone : goal.returns-in-Some-clause-gone
returns-in-Some-clause-gone g c = let gone = rw c.in-Some.is at c.in_ok-go_on.ensures.goes in ap (λ (x : Held). x.position) gone.same

pub returns-in-None-clause-gone : goal.returns-in-None-clause-gone
returns-in-None-clause-gone g c = let ended = rw c.in-None.is at c.in_ok-go_on.ensures.goes in let end = ended.0 in omega (arith, end)
