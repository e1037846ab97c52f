use Rattle.spv_bodies.proofs.ClassLemmas.{repeated_is}
use Rattle.spv_bodies.proofs.classes.repeated_class.Goals as goal

pub returns-clause-class : goal.returns-clause-class
returns-clause-class c = λ t is.
    repeated_is c.args.terms.now c.number.new.self c.pair.new.self c.number-2.new.self c.pair-2.new.self c.in-Some.part c.in_ok-count.count c.in_ok-rest.rest c.in_ok-opcode.opcode c.in_ok-pair.field-0 c.args.opcode c.args.count
    c.in_ok-count.ensures.grows c.in_ok-rest.ensures.grows c.in_ok-opcode.ensures.grows c.in_ok-pair.ensures.grows
    c.in_ok-count.ensures.there c.in_ok-rest.ensures.there (rw c.from.ensures at c.in_ok-opcode.ensures.there) c.in_ok-pair.ensures.there t (rw c.in-Some.is at is)
